-- Which stage of a run is refused.
use Rattle.std.proofs.Common.{◌≡◌, inl, inr, ℕ, zero, suc, ◌+◌, ◌<◌, List, [], ◌∷◌, ◌++◌, length, take, drop, get_or, ℤ, refl, sym, ap, subst, arith}
use Rattle.std.proofs.lemmas.List.{length-take-le}
use Rattle.nz_spec.specs.Vectors.{Vector}
use Rattle.nz_vec.specs.declared.answers.Work.{Work}
use Rattle.nz_vec.specs.declared.answers.Work.TheVariants.{Range, Stopped}
use Rattle.nz_dual.specs.DualStages.{IsInsertRefusal}
use Rattle.nz_dual.specs.Refusals.{IsRowOf}

module _ (bound : ℤ) (limit w : ℕ) (chosen rays others : List Vector) where
  pub without_number : (passed number : ℕ) → IsRowOf bound limit w chosen rays others passed (Range number) → IsRowOf bound limit w chosen rays others passed (Range 0)
  without_number passed number (inl s) = inl (s.0, (refl, s.1.1))
  without_number passed number (inr i) = inr (record { earlier = i.earlier; row = i.row; later = i.later; whole = i.whole; number = i.number; refused = (refl, i.refused.1) })

  pub never_stopped : (passed stage : ℕ) → ¬ IsRowOf bound limit w chosen rays others passed (Stopped stage)
  never_stopped passed stage (inl s) = s.1
  never_stopped passed stage (inr i) = i.refused

  pub insert_refused : (place : ℕ) (held : List Vector) (row : Vector) (e : Work) → place < length others → held ≡ chosen ++ take place others → row ≡ get_or others place [] → IsInsertRefusal bound limit w held row e → IsRowOf bound limit w chosen rays others (place + 1) e
  insert_refused place held row e l h r i = inr (record {
    earlier = take place others;
    row = get_or others place [];
    later = drop (suc place) others;
    whole = split others place l;
    number = (let e = length-take-le place others (omega (arith, l)) in omega (arith, e));
    refused = subst (λ (v : Vector). IsInsertRefusal bound limit w (chosen ++ take place others) v e) r (subst (λ (rows : List Vector). IsInsertRefusal bound limit w rows row e) h i);
  })
    where
      split : (vs : List Vector) (k : ℕ) → k < length vs → vs ≡ take k vs ++ get_or vs k [] ∷ drop (suc k) vs
      split [] k m = absurd (let f : ⊥ = omega arith in f)
      split (v ∷ vs) zero m = ap (λ us. v ∷ us) (sym (drop_zero vs))
        where
          drop_zero : (us : List Vector) → drop 0 us ≡ us
          drop_zero [] = refl
          drop_zero (u ∷ us) = refl
      split (v ∷ vs) (suc k) m = ap (λ us. v ∷ us) (split vs k (omega arith))
