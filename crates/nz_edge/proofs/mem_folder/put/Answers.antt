use Rattle.std.proofs.Common.{◌≡◌, List, ℕ, None, ap, get_or, arith, subst, set, ◌++◌, ◌∷◌, [], sym, ◌∙◌}
use Rattle.std.specs.Prelude.{string_bytes}
use Rattle.std.proofs.lemmas.Result.{on_ok_weaker}
use Rattle.nz_edge.specs.Folders.{Stores}
use Rattle.nz_vec.specs.Texts.{Text}
use Rattle.nz_edge.specs.Places.{Named, IsAppended, find_file}
use Rattle.nz_edge.proofs.PlacesLemmas.{IsAt, IsAt-length, place_found, place_missing, stores_set, stores_push}
use Rattle.nz_edge.proofs.mem_folder.put.Goals as goal

with_bytes : (fs : List Named) (name : Text) (i : ℕ) (old : Named) (bytes new : Text) → IsAt fs name i → old ≡ get_or fs i old → new ≡ bytes → Stores name bytes (find_file fs) (find_file (set fs i (old.0, new)))
with_bytes fs name i old bytes new here e f =
    let r = stores_set fs name i old (old.0, new) here (ap (λ (f : Named). string_bytes f.0) e) in
    subst (λ (b : Text). Stores name b (find_file fs) (find_file (set fs i (old.0, new)))) f r

one_more : (fs gs : List Named) (name bytes copy : Text) → find_file fs name ≡ None → copy ≡ bytes → IsAppended fs gs name copy → Stores name bytes (find_file fs) (find_file gs)
one_more fs gs name bytes copy none e added =
    let r = stores_push fs name added.0 none added.2 in
    let s = subst (λ (t : Text). Stores name t (find_file fs) (find_file (fs ++ added.0 ∷ []))) (added.3 ∙ e) r in
    subst (λ (hs : List Named). Stores name bytes (find_file fs) (find_file hs)) (sym added.1) s

pub index_mut-requires : goal.index_mut-requires
index_mut-requires c =
    let here = place_found c.deref.result.now c.args.name.now c.in-Some.i c.in-Some.ensures in
    let below = IsAt-length _ _ _ here in
    omega (arith, c.deref.ensures.len)

pub returns-in-Some-clause-ok : goal.returns-in-Some-clause-ok
returns-in-Some-clause-ok c =
    let here = place_found c.deref.result.now c.args.name.now c.in-Some.i c.in-Some.ensures in
    let there = rw c.deref.ensures.value at here in
    with_bytes c.args.files.now.items c.args.name.now c.in-Some.i c.index_mut.result.now c.args.bytes.now c.push_all.new.self there c.index_mut.ensures.value (grind (arith, c.in-Ok.ensures.ok, c.new-copy.ensures))

pub returns-in-None-clause-ok : goal.returns-in-None-clause-ok
returns-in-None-clause-ok c =
    let missing = place_missing c.deref.result.now c.args.name.now c.in-None.ensures in
    let none = rw c.deref.ensures.value at missing in
    on_ok_weaker c.append.result (one_more c.args.files.now.items c.append.new.files.items c.args.name.now c.args.bytes.now c.push_all.new.self none (grind (arith, c.in-Ok.ensures.ok, c.new-copy.ensures))) c.append.ensures.ok
