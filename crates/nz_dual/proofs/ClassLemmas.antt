-- Classes of degrees, as places and classes are appended.
use Rattle.std.proofs.Common.{◌≡◌, ⊎_elim, ℕ, ◌+◌, ◌<◌, ◌≤◌, ◌^◌, List, [], ◌∷◌, ◌++◌, length, get_or, Contains, refl, sym, ap, ◌∙◌, subst, arith, below_more}
use Rattle.std.proofs.lemmas.Bool.{cases_eq}
use Rattle.std.specs.Prelude.{set}
use Rattle.std.proofs.lemmas.List.{length-set, length-append, get_or_append_left, get_or-set_same, get_or-set_other}
use Rattle.std.proofs.Math.Seq.{get_or-append_seam}
use Rattle.std.proofs.lemmas.List.Elements.{Contains-append_left}
use Rattle.std.specs.List.{AllByRecursion as Each}
use Rattle.nz_spec.proofs.ListLaws.{Each-contains, Each-weaker, contains_at}
use Rattle.nz_order.proofs.OrderLaws.{Each-push}
use Rattle.nz_dual.specs.DegreeClasses.{IsEnd, AreClasses}

-- ---- one place more
end_more : (ds : List ℕ) (x d bound e : ℕ) → bound ≤ length ds → IsEnd ds d bound e → IsEnd (ds ++ x ∷ []) d bound e
end_more ds x d bound e l i =
    let u = i.inside in
    record {
      inside = u;
      last = λ k h. get_or_append_left ds (x ∷ []) 0 k (omega (arith, u, h, l)) ∙ i.last k h;
      none_behind = λ k m h. i.none_behind k m (sym (get_or_append_left ds (x ∷ []) 0 k (omega (arith, m, l))) ∙ h);
    }

end_other : (ds : List ℕ) (x d e : ℕ) → ¬ (x ≡ d) → IsEnd ds d (length ds) e → IsEnd (ds ++ x ∷ []) d (length ds + 1) e
end_other ds x d e n i =
    let o = end_more ds x d (length ds) e (omega arith) i in
    let u = i.inside in
    record {
      inside = omega (arith, u);
      last = o.last;
      none_behind = below_more (λ k. get_or (ds ++ x ∷ []) k 0 ≡ d → k < e) (length ds) o.none_behind (λ h. absurd (n (sym (get_or-append_seam ds x [] 0) ∙ h)));
    }

end_here : (ds : List ℕ) (x : ℕ) → IsEnd (ds ++ x ∷ []) x (length ds + 1) (length ds + 1)
end_here ds x = record {
  inside = omega arith;
  last = λ k h. let e : k ≡ length ds = omega (arith, h) in ap (λ (n : ℕ). get_or (ds ++ x ∷ []) n 0) e ∙ get_or-append_seam ds x [] 0;
  none_behind = λ k m h. m;
}

end_of_none : (ds cs : List ℕ) (x : ℕ) → Each (Contains cs) ds → ¬ Contains cs x → IsEnd ds x (length ds) 0
end_of_none ds cs x all n = record {
  inside = omega arith;
  last = λ k h. absurd (let f : ⊥ = omega (arith, h) in f);
  none_behind = λ k m h. absurd (n (subst (Contains cs) h (Each-contains (Contains cs) ds (get_or ds k 0) all (contains_at ds k 0 m))));
}

pub classes_extended : (ds cs es ls : List ℕ) (c x n : ℕ) → c < length cs → get_or cs c 0 ≡ x → n ≡ length ds + 1 → AreClasses ds cs es ls → AreClasses (ds ++ x ∷ []) cs (set es c n) (ls ++ get_or es c 0 ∷ [])
classes_extended ds cs es ls c x n l e is a =
    let wide : length (ds ++ x ∷ []) ≡ length ds + 1 = length-append ds (x ∷ []) in
    let has_end : c < length es = (let k = a.ends_known in omega (arith, k, l)) in
    record {
      all = Each-push (Contains cs) ds x a.all (subst (Contains cs) e (contains_at cs c 0 l));
      small = a.small;
      different = a.different;
      ends_known = length-set es c n ∙ a.ends_known;
      links_known = (let p = length-append ls (get_or es c 0 ∷ []) in let k = a.links_known in omega (arith, p, wide, k));
      at_ends = λ b m. subst (λ (t : ℕ). IsEnd (ds ++ x ∷ []) (get_or cs b 0) t (get_or (set es c n) b 0)) (sym wide) (⊎_elim
          (λ (s : b ≡ c).
          let now : get_or (set es c n) b 0 ≡ length ds + 1 = ap (λ (t : ℕ). get_or (set es c n) t 0) s ∙ get_or-set_same es c n 0 has_end ∙ is in
          let own : get_or cs b 0 ≡ x = ap (λ (t : ℕ). get_or cs t 0) s ∙ e in
          subst (λ (d : ℕ). IsEnd (ds ++ x ∷ []) d (length ds + 1) (get_or (set es c n) b 0)) (sym own) (subst (IsEnd (ds ++ x ∷ []) x (length ds + 1)) (sym now) (end_here ds x)))
          (λ (s : ¬ (b ≡ c)).
          subst (IsEnd (ds ++ x ∷ []) (get_or cs b 0) (length ds + 1)) (sym (get_or-set_other es c b n 0 s))
          (end_other ds x (get_or cs b 0) (get_or es b 0) (λ h. s (a.different b c m l (sym h ∙ sym e))) (a.at_ends b m)))
          (cases_eq b c));
      at_links = λ k m. below_more (λ k. IsEnd (ds ++ x ∷ []) (get_or (ds ++ x ∷ []) k 0) k (get_or (ls ++ get_or es c 0 ∷ []) k 0)) (length ds)
          (λ k m.
          subst (λ (d : ℕ). IsEnd (ds ++ x ∷ []) d k (get_or (ls ++ get_or es c 0 ∷ []) k 0)) (sym (get_or_append_left ds (x ∷ []) 0 k m))
          (subst (IsEnd (ds ++ x ∷ []) (get_or ds k 0) k) (sym (get_or_append_left ls (get_or es c 0 ∷ []) 0 k (let q = a.links_known in omega (arith, q, m))))
          (end_more ds x (get_or ds k 0) k (get_or ls k 0) (omega (arith, m)) (a.at_links k m))))
          (let last : get_or (ls ++ get_or es c 0 ∷ []) (length ds) 0 ≡ get_or es c 0 = ap (λ (t : ℕ). get_or (ls ++ get_or es c 0 ∷ []) t 0) (sym a.links_known) ∙ get_or-append_seam ls (get_or es c 0) [] 0 in
          subst (λ (d : ℕ). IsEnd (ds ++ x ∷ []) d (length ds) (get_or (ls ++ get_or es c 0 ∷ []) (length ds) 0)) (e ∙ sym (get_or-append_seam ds x [] 0))
          (subst (IsEnd (ds ++ x ∷ []) (get_or cs c 0) (length ds)) (sym last) (end_more ds x (get_or cs c 0) (length ds) (get_or es c 0) (omega arith) (a.at_ends c l))))
          k (omega (arith, m, wide));
    }

-- ---- one class more
pub classes_begun : (ds cs es ls : List ℕ) (x : ℕ) → x < 2 ^ 127 → ¬ Contains cs x → AreClasses ds cs es ls → AreClasses ds (cs ++ x ∷ []) (es ++ 0 ∷ []) ls
classes_begun ds cs es ls x small n a =
    let wide : length (cs ++ x ∷ []) ≡ length cs + 1 = length-append cs (x ∷ []) in
    let front : (k : ℕ) → k < length cs → get_or (cs ++ x ∷ []) k 0 ≡ get_or cs k 0 = λ k l. get_or_append_left cs (x ∷ []) 0 k l in
    let back : get_or (cs ++ x ∷ []) (length cs) 0 ≡ x = get_or-append_seam cs x [] 0 in
    let apart : (k : ℕ) → k < length cs → get_or cs k 0 ≡ x → ⊥ = λ k l e. n (subst (Contains cs) e (contains_at cs k 0 l)) in
    record {
      all = Each-weaker (Contains cs) (Contains (cs ++ x ∷ [])) (λ d c. Contains-append_left cs (x ∷ []) d c) ds a.all;
      small = Each-push (λ d. d < 2 ^ 127) cs x a.small small;
      different = λ i j l m. below_more (λ i. (j : ℕ) → j < length cs + 1 → get_or (cs ++ x ∷ []) i 0 ≡ get_or (cs ++ x ∷ []) j 0 → i ≡ j) (length cs)
          (λ i l. below_more (λ j. get_or (cs ++ x ∷ []) i 0 ≡ get_or (cs ++ x ∷ []) j 0 → i ≡ j) (length cs)
          (λ j m e. a.different i j l m (sym (front i l) ∙ e ∙ front j m))
          (λ e. absurd (apart i l (sym (front i l) ∙ e ∙ back))))
          (below_more (λ j. get_or (cs ++ x ∷ []) (length cs) 0 ≡ get_or (cs ++ x ∷ []) j 0 → length cs ≡ j) (length cs)
          (λ j m e. absurd (apart j m (sym (front j m) ∙ sym e ∙ back)))
          (λ e. refl))
          i (omega (arith, l, wide)) j (omega (arith, m, wide));
      ends_known = (let p = length-append es (0 ∷ []) in let k = a.ends_known in omega (arith, p, wide, k));
      links_known = a.links_known;
      at_ends = λ c l. below_more (λ c. IsEnd ds (get_or (cs ++ x ∷ []) c 0) (length ds) (get_or (es ++ 0 ∷ []) c 0)) (length cs)
          (λ c l.
          subst (λ (d : ℕ). IsEnd ds d (length ds) (get_or (es ++ 0 ∷ []) c 0)) (sym (front c l))
          (subst (IsEnd ds (get_or cs c 0) (length ds)) (sym (get_or_append_left es (0 ∷ []) 0 c (let k = a.ends_known in omega (arith, k, l)))) (a.at_ends c l)))
          (let last : get_or (es ++ 0 ∷ []) (length cs) 0 ≡ 0 = ap (λ (t : ℕ). get_or (es ++ 0 ∷ []) t 0) (sym a.ends_known) ∙ get_or-append_seam es 0 [] 0 in
          subst (λ (d : ℕ). IsEnd ds d (length ds) (get_or (es ++ 0 ∷ []) (length cs) 0)) (sym back) (subst (IsEnd ds x (length ds)) (sym last) (end_of_none ds cs x a.all n)))
          c (omega (arith, l, wide));
      at_links = a.at_links;
    }
