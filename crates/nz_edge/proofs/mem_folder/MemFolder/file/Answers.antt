use Rattle.std.proofs.Common.{arith}
use Rattle.nz_edge.proofs.PlacesLemmas.{IsAt-length, IsAt-find, place_found, place_missing}
use Rattle.nz_edge.proofs.mem_folder.MemFolder.file.Goals as goal

pub index-requires : goal.index-requires
index-requires c =
    let fs = c.args.self.now.files in
    let here = place_found c.deref.result.now c.args.name.now c.in-Some.i c.in-Some.ensures in
    let below = IsAt-length _ _ _ here in
    omega (arith, c.deref.ensures.len)

pub returns-in-Some : goal.returns-in-Some
returns-in-Some c =
    let here = place_found c.deref.result.now c.args.name.now c.in-Some.i c.in-Some.ensures in
    let found = IsAt-find _ _ _ c.index.result.now here in
    grind (arith, c.as_slice.ensures, c.index.ensures, c.deref.ensures.value)

pub returns-in-None : goal.returns-in-None
returns-in-None c =
    let missing = place_missing c.deref.result.now c.args.name.now c.in-None.ensures in
    cc
