use Rattle.std.specs.List.{AllByRecursion as Each}
use Rattle.nz_member.specs.Replies.{IsInMonoid}
use Rattle.nz_tests_engines.proofs.member_tests.elements_of.Given as goal

abbrev pub invariant-loop-entries : goal.invariant-loop-entries
invariant-loop-entries g l = Each (IsInMonoid 2 l.constraints) l.elements
