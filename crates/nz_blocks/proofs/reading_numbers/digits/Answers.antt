use Rattle.std.proofs.Common.{arith}
use Rattle.nz_blocks.specs.Beginnings.{IsDigit}
use Rattle.nz_blocks.proofs.Readings.{read_more, read_large, first_within, first_of, run_forward, read_whole}
use Rattle.nz_blocks.proofs.reading_numbers.digits.Goals as goal

pub returns-in-None : goal.returns-in-None
returns-in-None c =
    let within = first_within IsDigit c.args.text.now c.digits.place c.digits-test.ensures in
    record {
      run = read_large c.args.text.now c.args.from c.digits.place c.digits.total c.digits.invariant.read within (first_of IsDigit c.args.text.now c.digits.place within c.digits-test.ensures) c.in-None.ensures;
      forward = tt;
      some = λ f. tt;
    }

pub digits-preserved : goal.digits-preserved
digits-preserved c =
    let within = first_within IsDigit c.args.text.now c.digits.place c.digits-test.ensures in
    record {
      read = read_more c.args.text.now c.args.from c.digits.place c.digits.total c.in-Some.more c.digits.invariant.read within (first_of IsDigit c.args.text.now c.digits.place within c.digits-test.ensures) c.in-Some.ensures;
      forward = omega (arith, c.digits.invariant.forward);
    }

pub returns : goal.returns
returns c = record {
  run = read_whole c.args.text.now c.args.from c.digits.place c.digits.total c.digits.invariant.read c.digits-test.ensures;
  forward = c.digits.invariant.forward;
  some = λ f. run_forward c.args.text.now c.args.from c.digits.place f c.digits-test.ensures c.digits.invariant.forward;
}
