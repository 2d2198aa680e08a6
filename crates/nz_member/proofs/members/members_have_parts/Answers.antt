use Rattle.nz_member.proofs.MemberLists.{basis_is_list, modules_are_lists, parts_of_members}
use Rattle.nz_member.proofs.members.members_have_parts.Goals as goal

pub returns-clause-basis : goal.returns-clause-basis
returns-clause-basis c = basis_is_list

pub returns-clause-modules : goal.returns-clause-modules
returns-clause-modules c = modules_are_lists

pub returns-clause-parts : goal.returns-clause-parts
returns-clause-parts c = parts_of_members
