use Rattle.nz_further.proofs.IdealLaws.{closure_of_member, member_of_closure, hilbert_units}
use Rattle.nz_ideal.specs.IdealFiles.{exponents}
use Rattle.nz_ideal.specs.Meanings.{system_of}
use Rattle.nz_ideal.proofs.Meeting.{exponents-wide}
use Rattle.nz_ideal.proofs.Closing.{system-is, system-kept, raised}
use Rattle.nz_ideal.proofs.laws.closures_are_answered.Goals as goal

pub returns-clause-level_one : goal.returns-clause-level_one
returns-clause-level_one c = λ file f t x w.
    let wide = exponents-wide file.amb file.items f.items_keep in (
      (λ m. closure_of_member file.amb (exponents file.items) wide (system_of file) (system-is file t) x w m),
      (λ k. member_of_closure file.amb (exponents file.items) wide (system_of file) (system-is file t) x k),
    )

pub returns-clause-modules : goal.returns-clause-modules
returns-clause-modules c = raised

pub returns-clause-basis : goal.returns-clause-basis
returns-clause-basis c = λ file f t words h v. hilbert_units file.amb (exponents file.items) (exponents-wide file.amb file.items f.items_keep) (system_of file) (system-is file t) (system-kept file f t words h) v
