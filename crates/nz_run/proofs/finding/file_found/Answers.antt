use Rattle.std.proofs.lemmas.Result.{MatchResult-weaker}
use Rattle.nz_run.proofs.KindsFound.{plain_found, plain_cause, convert_found, convert_cause, units_found, units_cause, points_found, points_cause}
use Rattle.nz_run.proofs.finding.file_found.Goals as goal

pub returns-in-Plain : goal.returns-in-Plain
returns-in-Plain g c =
    MatchResult-weaker c.file_solved.result c.file_solved.ensures
    (λ text h. plain_found c.args.kind c.args.goals.now c.args.limit _ _ c.args.file.now text c.in-Plain.is h)
    (λ status h. plain_cause c.args.kind c.args.goals.now c.args.limit _ _ c.args.file.now status c.in-Plain.is h)

pub returns-in-Convert : goal.returns-in-Convert
returns-in-Convert g c =
    MatchResult-weaker c.converted.result c.converted.ensures
    (λ text h. convert_found c.args.kind c.args.goals.now c.args.limit _ c.args.file.now text c.in-Convert.is h)
    (λ status h. convert_cause c.args.kind c.args.goals.now c.args.limit _ c.args.file.now status c.in-Convert.is h)

pub returns-in-Units : goal.returns-in-Units
returns-in-Units g c =
    MatchResult-weaker c.units_listed.result c.units_listed.ensures
    (λ text h. units_found c.args.kind c.args.goals.now c.args.limit _ _ c.args.file.now text c.in-Units.is (h _))
    (λ status h. units_cause c.args.kind c.args.goals.now c.args.limit _ _ c.args.file.now status c.in-Units.is (h _))

pub points_listed-requires : goal.points_listed-requires
points_listed-requires g c = c.requires c.in-LatticePoints.is

pub returns-in-LatticePoints : goal.returns-in-LatticePoints
returns-in-LatticePoints g c =
    MatchResult-weaker c.points_listed.result c.points_listed.ensures
    (λ text h. points_found c.args.kind c.args.goals.now c.args.limit _ _ c.args.file.now text c.in-LatticePoints.is (h _))
    (λ status h. points_cause c.args.kind c.args.goals.now c.args.limit _ _ c.args.file.now status c.in-LatticePoints.is (h _))
