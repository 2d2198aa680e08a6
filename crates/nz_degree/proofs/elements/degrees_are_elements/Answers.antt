use Rattle.nz_degree.proofs.ElementLaws.{first_is_element, positive_has_none, ones_are_elements, sorted_is_list, sorted_is_basis, sorted_are_modules}
use Rattle.nz_degree.proofs.elements.degrees_are_elements.Goals as goal

pub returns-clause-first : goal.returns-clause-first
returns-clause-first c = first_is_element

pub returns-clause-none : goal.returns-clause-none
returns-clause-none c = positive_has_none

pub returns-clause-ones : goal.returns-clause-ones
returns-clause-ones c = ones_are_elements

pub returns-clause-sorted : goal.returns-clause-sorted
returns-clause-sorted c = sorted_is_list

pub returns-clause-basis : goal.returns-clause-basis
returns-clause-basis c = sorted_is_basis

pub returns-clause-modules : goal.returns-clause-modules
returns-clause-modules c = sorted_are_modules
