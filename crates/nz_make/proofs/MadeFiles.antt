-- What a made file keeps.
use Rattle.std.proofs.Common.{ℕ, ◌≤◌, refl, arith}
use Rattle.nz_input.specs.Files.{IsFile}
use Rattle.nz_make.specs.Squares.{made_file}

-- a made file is a file
pub made_is_file : (n : ℕ) → n ≤ 150 → IsFile (made_file n)
made_is_file n h = record {
  low = omega arith;
  high = omega arith;
  items_keep = (
    record {
      count = omega arith;
      vector = tt;
      widths = (refl, (refl, (refl, (refl, tt))));
      entries = (
        (omega arith, (omega arith, (omega arith, tt))),
        ((omega arith, (omega arith, (omega arith, tt))), ((omega arith, (omega arith, (omega arith, tt))), ((omega arith, (omega arith, (omega arith, tt))), tt))),
      );
    },
    tt,
  );
}
