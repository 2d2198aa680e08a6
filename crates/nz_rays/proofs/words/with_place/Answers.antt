use Rattle.std.proofs.Common.{◌-◌, ap, arith}
use Rattle.std.specs.Int.Bits.{bit_or}
use Rattle.nz_rays.proofs.WordLemmas.{with_bit, shifted}
use Rattle.nz_rays.proofs.words.with_place.Goals as goal

pub returns-then-bit-lt64 : goal.returns-then-bit-lt64
returns-then-bit-lt64 c =
    let within = c.if-bit-lt64.true in
    with_bit c.args.word c.args.from c.args.place (c.args.place - c.args.from) _ (omega (arith, c.if-place-from.false)) (omega arith) (ap (λ b. bit_or c.args.word b) (shifted (c.args.place - c.args.from) (omega arith)))
