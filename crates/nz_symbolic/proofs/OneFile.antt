-- A text is a text of one file.
use Rattle.std.proofs.Common.{◌≡◌, List, sym, ap, ◌∙◌, inl, inr}
use Rattle.nz_vec.specs.Texts.{Text}
use Rattle.nz_symbolic.specs.Symbols.{AnyEntry, file_of, Matrix, old_file}
use Rattle.nz_symbolic.specs.Laws as law
use Rattle.nz_symbolic.proofs.Accepting.{some-dimension-laid, texts-accepted}
use Rattle.nz_symbolic.proofs.Dead.{one-sequence}
use Rattle.nz_symbolic.proofs.OneEntry.{symbols-one, old-one, apart-forms}

pub one-file : law.OneFile
unfolding texts-accepted
one-file text f g (inl t) (inl u) =
    let same = symbols-one t.dimension u.dimension t.entries u.entries (some-dimension-laid t.dimension t.entries text t.laid) t.fit u.fit (one-sequence text f g (inl t) (inl u)) in
    t.is ∙ ap (λ d. file_of d t.entries) same.0 ∙ ap (λ (es : List AnyEntry). file_of u.dimension es) same.1 ∙ sym u.is
one-file text f g (inl t) (inr u) = absurd (apart-forms t.dimension u.dimension t.entries u.entries u.fit (one-sequence text f g (inl t) (inr u)))
one-file text f g (inr t) (inl u) = absurd (apart-forms u.dimension t.dimension u.entries t.entries t.fit (sym (one-sequence text f g (inr t) (inl u))))
one-file text f g (inr t) (inr u) =
    let same = old-one t.dimension u.dimension t.entries u.entries t.fit u.fit (one-sequence text f g (inr t) (inr u)) in
    t.is ∙ ap (λ d. old_file d t.entries) same.0 ∙ ap (λ (ms : List Matrix). old_file u.dimension ms) same.1 ∙ sym u.is
