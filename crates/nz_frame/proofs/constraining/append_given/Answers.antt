use Rattle.nz_frame.proofs.constraining.append_given.Goals as goal

pub returns-in-Some-clause-cause : goal.returns-in-Some-clause-cause
returns-in-Some-clause-cause g c = rw c.in-Some.is c.append_swept.ensures.cause
