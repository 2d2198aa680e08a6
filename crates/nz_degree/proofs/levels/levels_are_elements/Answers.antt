use Rattle.nz_degree.proofs.LevelLists.{elements_of_levels}
use Rattle.nz_degree.proofs.levels.levels_are_elements.Goals as goal

pub returns : goal.returns
returns c = elements_of_levels
