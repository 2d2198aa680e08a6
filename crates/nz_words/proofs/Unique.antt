-- The words order one thing at most.
use Rattle.std.proofs.Common.{◌≡◌, ◌∙◌, sym, ap, refl, subst, inl, inr, ℕ, List, Bool, Option, Some, None, codes}
use Rattle.std.proofs.lemmas.List.{append_cancel_right}
use Rattle.clap.specs.Simple.{matches_of}
use Rattle.nz_vec.specs.Texts.{Text}
use Rattle.nz_input.specs.declared.kind.Goal.{Goal}
use Rattle.nz_words.specs.Orders.{OrderData, GivenData, Names, IsLimit, IsOptional, IsOrderOf, IsOrder}
use Rattle.nz_words.specs.Rules.{command_app, given_in}
use Rattle.nz_words.proofs.Meeting.{ordered_is_found}

names_one : (word p q : Text) → Names word p → Names word q → p ≡ q
names_one word p q (inl e) (inl f) = append_cancel_right p q (codes ".in") (sym e ∙ f)
names_one word p q (inl e) (inr g) = absurd (g.1 p e)
names_one word p q (inr h) (inl f) = absurd (h.1 q f)
names_one word p q (inr h) (inr g) = sym h.0 ∙ g.0

limit_one : (text : Option Text) (m n : ℕ) → IsLimit text m → IsLimit text n → m ≡ n
limit_one None m n h k = h ∙ sym k
limit_one (Some t) m n h k = h.value ∙ sym k.value

optional_one : (low high : ℕ) (text : Option Text) (m n : Option ℕ) → IsOptional low high text m → IsOptional low high text n → m ≡ n
optional_one low high None m n h k = h ∙ sym k
optional_one low high (Some t) m n h k = h.1 ∙ ap (λ (i : ℕ). Some i) (h.2.value ∙ sym k.2.value) ∙ sym k.1

abbrev made : Text → List Goal → ℕ → Bool → Option ℕ → Option ℕ → Bool → Bool → OrderData
made p g l v s m c u = record { project = p; goals = g; limit = l; verbose = v; stages = s; make = m; convert = c; units = u }

made_same : (p p' : Text) (g g' : List Goal) (l l' : ℕ) (v v' : Bool) (s s' m m' : Option ℕ) (c c' u u' : Bool) → p ≡ p' → g ≡ g' → l ≡ l' → v ≡ v' → s ≡ s' → m ≡ m' → c ≡ c' → u ≡ u' → made p g l v s m c u ≡ made p' g' l' v' s' m' c' u'
made_same p p' g g' l l' v v' s s' m m' c c' u u' ep eg el ev es em ec eu = rw (ep, eg, el, ev, es, em, ec, eu) refl

some_text : (a b : Text) → Some a ≡ Some b → a ≡ b
some_text a b e = cc

given_one : (g : GivenData) (a b : OrderData) → IsOrderOf g a → IsOrderOf g b → a ≡ b
given_one g a b h k =
    let word : k.word ≡ h.word = some_text k.word h.word (sym k.named ∙ h.named) in
    made_same a.project b.project a.goals b.goals a.limit b.limit a.verbose b.verbose a.stages b.stages a.make b.make a.convert b.convert a.units b.units
    (names_one h.word a.project b.project h.names.names (subst (λ (w : Text). Names w b.project) word k.names.names))
    (h.goals ∙ sym k.goals)
    (limit_one g.limit a.limit b.limit h.limit k.limit)
    (h.verbose ∙ sym k.verbose)
    (optional_one 0 1000000 g.stages a.stages b.stages h.stages k.stages)
    (optional_one 1 150 g.make a.make b.make h.make k.make)
    (h.convert ∙ sym k.convert)
    (h.units ∙ sym k.units)

pub order_one : (words : List Text) (a b : OrderData) → IsOrder words a → IsOrder words b → a ≡ b
order_one words a b h k = given_one (given_in (matches_of command_app words)) a b (ordered_is_found words a h).1 (ordered_is_found words b k).1
