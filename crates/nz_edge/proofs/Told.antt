-- A console that tells grows piece by piece.
use Rattle.std.proofs.Common.{◌≡◌, ℕ, zero, suc, zero-add, suc-add, ◌+◌, [], ◌∷◌, ◌++◌, take, drop, refl, sym, ap, ◌∙◌, Option, Some, None, arith}
use Rattle.std.proofs.lemmas.List.{append_assoc, append-nil, take_all}
use Rattle.nz_vec.specs.Texts.{Text}
use Rattle.nz_edge.specs.Folders.{BothTold}

-- the console grew by the first n bytes
abbrev pub GrewBy : Option Text → Option Text → ℕ → Text → Type 0
GrewBy old now n bytes = BothTold old now (λ before after. after ≡ before ++ take n bytes)

take_past : (n : ℕ) → take {A = ℕ} n [] ≡ []
take_past n = take_all n [] (omega arith)

take_sum : (m n : ℕ) (bs : Text) → take m bs ++ take n (drop m bs) ≡ take (m + n) bs
take_sum zero n bs = rw zero-add refl
take_sum (suc m) n [] = take_past n ∙ sym (take_past (suc m + n))
take_sum (suc m) n (b ∷ bs) = rw suc-add (ap (λ t. b ∷ t) (take_sum m n bs))

pub grew_none : (o : Option Text) (bs : Text) → GrewBy o o 0 bs
grew_none None bs = tt
grew_none (Some b) bs = sym (append-nil b)

pub grew_more : (a b c : Option Text) (m n : ℕ) (bs : Text) → GrewBy a b m bs → BothTold b c (λ before after. after ≡ before ++ take n (drop m bs)) → GrewBy a c (m + n) bs
grew_more None None None m n bs h k = tt
grew_more None None (Some c) m n bs h k = k
grew_more None (Some b) c m n bs h k = absurd h
grew_more (Some a) None c m n bs h k = absurd h
grew_more (Some a) (Some b) None m n bs h k = k
grew_more (Some a) (Some b) (Some c) m n bs h k = k ∙ ap (λ t. t ++ take n (drop m bs)) h ∙ append_assoc a (take m bs) (take n (drop m bs)) ∙ ap (λ t. a ++ t) (take_sum m n bs)
