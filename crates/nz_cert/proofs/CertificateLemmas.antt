-- A certificate, part by part.
use Rattle.std.proofs.Common.{◌≡◌, ◌≢◌, ℕ, List, [], ◌∷◌, ◌++◌, length, codes, refl, sym, ap, ◌∙◌, subst, arith, Some, None, Result, Ok, Err, MatchResult}
use Rattle.nz_spec.specs.Vectors.{Vector}
use Rattle.nz_spec.specs.Order.{ListsOnce}
use Rattle.nz_further.specs.Certificates.{CertificateData, IsPlace, AreHeld, HasShape}
use Rattle.nz_further.specs.CertificateTexts.{Bytes, Word, list_words, words_of, IsTextOf}
use Rattle.nz_cert.specs.declared.refusal.CertTextRefusal.{CertTextRefusal}
use Rattle.nz_cert.specs.declared.refusal.CertTextRefusal.TheVariants.{Bad, NoMemory}
use Rattle.nz_cert.specs.declared.sizes.Sizes.{Sizes}
use Rattle.nz_cert.specs.declared.stages.Stages.{Stages}
use Rattle.nz_cert.specs.Words.{IsRead, text_words}
use Rattle.nz_cert.specs.Readings.{IsOption, IsReading, AreHeldVectors, ray_words}
use Rattle.nz_cert.specs.Fields.{AreSizes, size_words, IsOrderOf, order_words, AreStages, two_sided_words}
use Rattle.nz_cert.proofs.ReadingLemmas.{read_join, read_split, option_only, option_refused}
use Rattle.nz_cert.proofs.ListLemmas.{held_forth, held_back}
use Rattle.nz_cert.proofs.TextLemmas.{laid_read, read_laid}

abbrev pub sizes_in : CertificateData → Sizes
sizes_in c = record { width = c.width; rank = c.rank; rows = length c.order }

abbrev pub stages_in : CertificateData → Stages
stages_in c = record { plus = c.above; minus = c.beneath }

-- where the parts of a certificate stand
pub record Standing (c : CertificateData) (before after : List Bytes) : Type 0 where
  pub m1 : List Bytes
  pub m2 : List Bytes
  pub m3 : List Bytes
  pub m4 : List Bytes
  pub m5 : List Bytes
  pub sizes : IsRead (size_words (sizes_in c)) before m1
  pub order : IsRead (order_words c.order) m1 m2
  pub rays : IsRead (ray_words c.rays) m2 m3
  pub points : IsRead (list_words (codes "points") c.points) m3 m4
  pub first : IsRead (list_words (codes "first") c.first) m4 m5
  pub stages : IsRead (two_sided_words c.rank (stages_in c)) m5 after

pub standing : (c : CertificateData) (before after : List Bytes) → IsRead (words_of c) before after → Standing c before after
standing c before after h =
    let stages = two_sided_words c.rank (stages_in c) in
    let first = list_words (codes "first") c.first in
    let points = list_words (codes "points") c.points in
    let a = read_split (size_words (sizes_in c)) (order_words c.order ++ (ray_words c.rays ++ (points ++ (first ++ stages)))) before after h in
    let b = read_split (order_words c.order) (ray_words c.rays ++ (points ++ (first ++ stages))) a.mid after a.second in
    let d = read_split (ray_words c.rays) (points ++ (first ++ stages)) b.mid after b.second in
    let e = read_split points (first ++ stages) d.mid after d.second in
    let f = read_split first stages e.mid after e.second in
    record { m1 = a.mid; m2 = b.mid; m3 = d.mid; m4 = e.mid; m5 = f.mid; sizes = a.first; order = b.first; rays = d.first; points = e.first; first = f.first; stages = f.second }

pub stood : (c : CertificateData) (before m1 m2 m3 m4 m5 after : List Bytes) → IsRead (size_words (sizes_in c)) before m1 → IsRead (order_words c.order) m1 m2 → IsRead (ray_words c.rays) m2 m3
    → IsRead (list_words (codes "points") c.points) m3 m4 → IsRead (list_words (codes "first") c.first) m4 m5 → IsRead (two_sided_words c.rank (stages_in c)) m5 after → IsRead (words_of c) before after
stood c before m1 m2 m3 m4 m5 after a b d e f g =
    let stages = two_sided_words c.rank (stages_in c) in
    let first = list_words (codes "first") c.first in
    let points = list_words (codes "points") c.points in
    read_join (size_words (sizes_in c)) (order_words c.order ++ (ray_words c.rays ++ (points ++ (first ++ stages)))) before m1 after a
    (read_join (order_words c.order) (ray_words c.rays ++ (points ++ (first ++ stages))) m1 m2 after b
    (read_join (ray_words c.rays) (points ++ (first ++ stages)) m2 m3 after d (read_join points (first ++ stages) m3 m4 after e (read_join first stages m4 m5 after f g))))

pub sizes_fit : (c : CertificateData) → HasShape c → AreSizes (sizes_in c)
sizes_fit c f = record { width = f.width_range; rank_at_most = f.rank_at_most; at_most = f.is.at_most; few_rows = f.few_rows }

pub stages_fit : (c : CertificateData) → HasShape c → AreStages c.width c.rank (length c.order) (stages_in c)
stages_fit c f = record { as_many_above = f.as_many_above; as_many_beneath = f.as_many_beneath; above = f.above; beneath = f.beneath }

-- an answer at the place where a value stands
pub meets : {A : Type 0} (P : A → Type 0) (spelling : A → List Word) (here mid from to : List Bytes) (r : Result A CertTextRefusal) (a : A) → IsReading P spelling here mid r → here ≡ from → P a → IsRead (spelling a) from to
    → MatchResult r (λ v. (v ≡ a) × (mid ≡ to)) (λ e. e ≡ NoMemory)
meets P spelling here mid from to r a h e f g = h.whole a to f (subst (λ (t : List Bytes). IsRead (spelling a) t to) (sym e) g)

pub meets_sizes : (c : CertificateData) (before mid after : List Bytes) (s : Sizes) → IsOption AreSizes size_words before mid (Some s) → HasShape c → (p : Standing c before after) → (s ≡ sizes_in c) × (mid ≡ p.m1)
meets_sizes c before mid after s h f p = (option_only AreSizes size_words before mid s h).whole (sizes_in c) p.m1 (sizes_fit c f) p.sizes

pub meets_order : (c : CertificateData) (before here mid after : List Bytes) (s : Sizes) (r : Result (List ℕ) CertTextRefusal) → IsReading (IsOrderOf s.rows) order_words here mid r → HasShape c → (p : Standing c before after) → (s ≡ sizes_in c) → (here ≡ p.m1)
    → MatchResult r (λ v. (v ≡ c.order) × (mid ≡ p.m2)) (λ e. e ≡ NoMemory)
meets_order c before here mid after s r h f p e at =
    meets (IsOrderOf s.rows) order_words here mid p.m1 p.m2 r c.order h at (subst (λ (z : Sizes). IsOrderOf z.rows c.order) (sym e) (refl, f.is.places)) p.order

pub meets_rays : (c : CertificateData) (before here mid after : List Bytes) (s : Sizes) (r : Result (List Vector) CertTextRefusal) → IsReading (AreHeldVectors s.width s.rank) ray_words here mid r → HasShape c → (p : Standing c before after) → (s ≡ sizes_in c)
    → (here ≡ p.m2) → MatchResult r (λ v. (v ≡ c.rays) × (mid ≡ p.m3)) (λ e. e ≡ NoMemory)
meets_rays c before here mid after s r h f p e at =
    meets (AreHeldVectors s.width s.rank) ray_words here mid p.m2 p.m3 r c.rays h at (subst (λ (z : Sizes). AreHeldVectors z.width z.rank c.rays) (sym e) (held_back c.width c.rank c.rays f.is.as_many_rays f.rays)) p.rays

pub meets_list : (name : Bytes) (vs : List Vector) (w : ℕ) (here mid from to : List Bytes) (s : Sizes) (r : Result (List Vector) CertTextRefusal) → IsReading (AreHeld s.width) (list_words name) here mid r → AreHeld w vs → IsRead (list_words name vs) from to
    → s.width ≡ w → (here ≡ from) → MatchResult r (λ v. (v ≡ vs) × (mid ≡ to)) (λ e. e ≡ NoMemory)
meets_list name vs w here mid from to s r h f p e at = meets (AreHeld s.width) (list_words name) here mid from to r vs h at (subst (λ (k : ℕ). AreHeld k vs) (sym e) f) p

pub meets_stages : (c : CertificateData) (before here mid after : List Bytes) (s : Sizes) (r : Result Stages CertTextRefusal) → IsReading (AreStages s.width s.rank s.rows) (two_sided_words s.rank) here mid r → HasShape c → (p : Standing c before after) → (s ≡ sizes_in c)
    → (here ≡ p.m5) → MatchResult r (λ v. (v ≡ stages_in c) × (mid ≡ after)) (λ e. e ≡ NoMemory)
meets_stages c before here mid after s r h f p e at =
    meets (AreStages s.width s.rank s.rows) (two_sided_words s.rank) here mid p.m5 after r (stages_in c) h at (subst (λ (z : Sizes). AreStages z.width z.rank z.rows (stages_in c)) (sym e) (stages_fit c f))
    (subst (λ (z : Sizes). IsRead (two_sided_words z.rank (stages_in c)) p.m5 after) (sym e) p.stages)

-- the certificate that is put together
abbrev pub made : Sizes → List ℕ → (rays points first : List Vector) → Stages → CertificateData
made s order rays points first stages = record { width = s.width; rank = s.rank; order = order; rays = rays; points = points; first = first; above = stages.plus; beneath = stages.minus }

pub made_shape : (s : Sizes) (order : List ℕ) (rays points first : List Vector) (stages : Stages) → AreSizes s → IsOrderOf s.rows order → AreHeldVectors s.width s.rank rays → AreHeld s.width points → AreHeld s.width first → AreStages s.width s.rank s.rows stages
    → HasShape (made s order rays points first stages)
made_shape s order rays points first stages a b d e f g =
    let n = b.0 in
    let l = a.at_most in
    let few = a.few_rows in
    let above = g.as_many_above in
    let beneath = g.as_many_beneath in
    let wide = a.width.1 in
    let small = a.rank_at_most in
    record {
      is = record { as_many_rays = d.0; at_most = omega (arith, n, l); places = subst (λ (k : ℕ). ListsOnce (IsPlace k) order) (sym n) b.1 };
      width_range = a.width;
      rank_at_most = a.rank_at_most;
      few_rows = omega (arith, n, few);
      as_many_above = above ∙ sym n;
      as_many_beneath = beneath ∙ sym n;
      rays = held_forth s.width s.rank rays (omega (arith, wide, small)) d;
      points = e;
      first = f;
      above = g.above;
      beneath = g.beneath;
    }

-- ---- the whole text
pub text_of_read : (c : CertificateData) (text : Bytes) (after : List Bytes) → HasShape c → IsRead (words_of c) (text_words text) after → after ≡ [] → IsTextOf c text
text_of_read c text after f h e = record { shape = f; laid = read_laid (words_of c) text (subst (λ (t : List Bytes). IsRead (words_of c) (text_words text) t) e h) }

pub read_of_text : (c : CertificateData) (text : Bytes) → IsTextOf c text → IsRead (words_of c) (text_words text) []
read_of_text c text t = laid_read c text t.laid

pub bad_is_not : Bad ≢ NoMemory
bad_is_not e = cc

pub refused_text : (text : Bytes) (before after : List Bytes) (x : CertTextRefusal) → before ≡ text_words text → IsReading HasShape words_of before after (Err x) → (c : CertificateData) → IsTextOf c text → x ≡ NoMemory
refused_text text before after x e h c t = h.whole c [] t.shape (subst (λ (ts : List Bytes). IsRead (words_of c) ts []) (sym e) (read_of_text c text t))

pub further_word : (text : Bytes) (before after more : List Bytes) (word : Bytes) (d : CertificateData) → before ≡ text_words text → IsReading HasShape words_of before after (Ok d) → after ≡ word ∷ more → (c : CertificateData) → ¬ IsTextOf c text
further_word text before after more word d e h f c t =
    let w = h.whole c [] t.shape (subst (λ (ts : List Bytes). IsRead (words_of c) ts []) (sym e) (read_of_text c text t)) in
    some word more (sym f ∙ w.1)
  where
    some : (t : Bytes) (ts : List Bytes) → t ∷ ts ≢ []
    some t ts e = cc

width_of : (s : Sizes) (c : CertificateData) → s ≡ sizes_in c → s.width ≡ c.width
width_of s c e = ap (λ (z : Sizes). z.width) e

-- ---- where an answer is a refusal, and where all are there
pub no_sizes : (before n1 after : List Bytes) → IsOption AreSizes size_words before n1 None → IsReading HasShape words_of before after (Err Bad)
no_sizes before n1 after h = record {
  sound = tt;
  whole = λ c rest f r. (let p = standing c before rest r in (option_refused AreSizes size_words before n1 h).whole (sizes_in c) p.m1 (sizes_fit c f) p.sizes);
}

pub refused_order : (before n1 n2 after : List Bytes) (s : Sizes) (x : CertTextRefusal) → IsOption AreSizes size_words before n1 (Some s) → IsReading (IsOrderOf s.rows) order_words n1 n2 (Err x) → IsReading HasShape words_of before after (Err x)
refused_order before n1 n2 after s x h1 h2 = record {
  sound = tt;
  whole = λ c rest f r.
      let p = standing c before rest r in
      let e1 = meets_sizes c before n1 rest s h1 f p in
      meets_order c before n1 n2 rest s (Err x) h2 f p e1.0 e1.1;
}

pub refused_rays : (before n1 n2 n3 after : List Bytes) (s : Sizes) (order : List ℕ) (x : CertTextRefusal) → IsOption AreSizes size_words before n1 (Some s) → IsReading (IsOrderOf s.rows) order_words n1 n2 (Ok order)
    → IsReading (AreHeldVectors s.width s.rank) ray_words n2 n3 (Err x) → IsReading HasShape words_of before after (Err x)
refused_rays before n1 n2 n3 after s order x h1 h2 h3 = record {
  sound = tt;
  whole = λ c rest f r.
      let p = standing c before rest r in
      let e1 = meets_sizes c before n1 rest s h1 f p in
      let e2 = meets_order c before n1 n2 rest s (Ok order) h2 f p e1.0 e1.1 in
      meets_rays c before n2 n3 rest s (Err x) h3 f p e1.0 e2.1;
}

pub refused_points : (before n1 n2 n3 n4 after : List Bytes) (s : Sizes) (order : List ℕ) (rays : List Vector) (x : CertTextRefusal) → IsOption AreSizes size_words before n1 (Some s) → IsReading (IsOrderOf s.rows) order_words n1 n2 (Ok order)
    → IsReading (AreHeldVectors s.width s.rank) ray_words n2 n3 (Ok rays) → IsReading (AreHeld s.width) (list_words (codes "points")) n3 n4 (Err x) → IsReading HasShape words_of before after (Err x)
refused_points before n1 n2 n3 n4 after s order rays x h1 h2 h3 h4 = record {
  sound = tt;
  whole = λ c rest f r.
      let p = standing c before rest r in
      let e1 = meets_sizes c before n1 rest s h1 f p in
      let e2 = meets_order c before n1 n2 rest s (Ok order) h2 f p e1.0 e1.1 in
      let e3 = meets_rays c before n2 n3 rest s (Ok rays) h3 f p e1.0 e2.1 in
      meets_list (codes "points") c.points c.width n3 n4 p.m3 p.m4 s (Err x) h4 f.points p.points (width_of s c e1.0) e3.1;
}

pub refused_first : (before n1 n2 n3 n4 n5 after : List Bytes) (s : Sizes) (order : List ℕ) (rays points : List Vector) (x : CertTextRefusal) → IsOption AreSizes size_words before n1 (Some s) → IsReading (IsOrderOf s.rows) order_words n1 n2 (Ok order)
    → IsReading (AreHeldVectors s.width s.rank) ray_words n2 n3 (Ok rays) → IsReading (AreHeld s.width) (list_words (codes "points")) n3 n4 (Ok points) → IsReading (AreHeld s.width) (list_words (codes "first")) n4 n5 (Err x)
    → IsReading HasShape words_of before after (Err x)
refused_first before n1 n2 n3 n4 n5 after s order rays points x h1 h2 h3 h4 h5 = record {
  sound = tt;
  whole = λ c rest f r.
      let p = standing c before rest r in
      let e1 = meets_sizes c before n1 rest s h1 f p in
      let e2 = meets_order c before n1 n2 rest s (Ok order) h2 f p e1.0 e1.1 in
      let e3 = meets_rays c before n2 n3 rest s (Ok rays) h3 f p e1.0 e2.1 in
      let e4 = meets_list (codes "points") c.points c.width n3 n4 p.m3 p.m4 s (Ok points) h4 f.points p.points (width_of s c e1.0) e3.1 in
      meets_list (codes "first") c.first c.width n4 n5 p.m4 p.m5 s (Err x) h5 f.first p.first (width_of s c e1.0) e4.1;
}

pub refused_stages : (before n1 n2 n3 n4 n5 n6 after : List Bytes) (s : Sizes) (order : List ℕ) (rays points first : List Vector) (x : CertTextRefusal) → IsOption AreSizes size_words before n1 (Some s) → IsReading (IsOrderOf s.rows) order_words n1 n2 (Ok order)
    → IsReading (AreHeldVectors s.width s.rank) ray_words n2 n3 (Ok rays) → IsReading (AreHeld s.width) (list_words (codes "points")) n3 n4 (Ok points) → IsReading (AreHeld s.width) (list_words (codes "first")) n4 n5 (Ok first)
    → IsReading (AreStages s.width s.rank s.rows) (two_sided_words s.rank) n5 n6 (Err x) → IsReading HasShape words_of before after (Err x)
refused_stages before n1 n2 n3 n4 n5 n6 after s order rays points first x h1 h2 h3 h4 h5 h6 = record {
  sound = tt;
  whole = λ c rest f r.
      let p = standing c before rest r in
      let e1 = meets_sizes c before n1 rest s h1 f p in
      let e2 = meets_order c before n1 n2 rest s (Ok order) h2 f p e1.0 e1.1 in
      let e3 = meets_rays c before n2 n3 rest s (Ok rays) h3 f p e1.0 e2.1 in
      let e4 = meets_list (codes "points") c.points c.width n3 n4 p.m3 p.m4 s (Ok points) h4 f.points p.points (width_of s c e1.0) e3.1 in
      let e5 = meets_list (codes "first") c.first c.width n4 n5 p.m4 p.m5 s (Ok first) h5 f.first p.first (width_of s c e1.0) e4.1 in
      meets_stages c before n5 n6 rest s (Err x) h6 f p e1.0 e5.1;
}

pub made_read : (s : Sizes) (order : List ℕ) (rays points first : List Vector) (stages : Stages) (before n1 n2 n3 n4 n5 n6 : List Bytes) → IsOption AreSizes size_words before n1 (Some s) → IsReading (IsOrderOf s.rows) order_words n1 n2 (Ok order)
    → IsReading (AreHeldVectors s.width s.rank) ray_words n2 n3 (Ok rays) → IsReading (AreHeld s.width) (list_words (codes "points")) n3 n4 (Ok points) → IsReading (AreHeld s.width) (list_words (codes "first")) n4 n5 (Ok first)
    → IsReading (AreStages s.width s.rank s.rows) (two_sided_words s.rank) n5 n6 (Ok stages) → IsReading HasShape words_of before n6 (Ok (made s order rays points first stages))
made_read s order rays points first stages before n1 n2 n3 n4 n5 n6 h1 h2 h3 h4 h5 h6 = record {
  sound = (
    made_shape s order rays points first stages h1.sound.0 h2.sound.0 h3.sound.0 h4.sound.0 h5.sound.0 h6.sound.0,
    stood (made s order rays points first stages) before n1 n2 n3 n4 n5 n6 (subst (λ (k : ℕ). IsRead (size_words (record { width = s.width; rank = s.rank; rows = k })) before n1) (sym h2.sound.0.0) h1.sound.1) h2.sound.1 h3.sound.1 h4.sound.1 h5.sound.1 h6.sound.1,
  );
  whole = λ c rest f r.
      let p = standing c before rest r in
      let e1 = meets_sizes c before n1 rest s h1 f p in
      let e2 = meets_order c before n1 n2 rest s (Ok order) h2 f p e1.0 e1.1 in
      let e3 = meets_rays c before n2 n3 rest s (Ok rays) h3 f p e1.0 e2.1 in
      let e4 = meets_list (codes "points") c.points c.width n3 n4 p.m3 p.m4 s (Ok points) h4 f.points p.points (width_of s c e1.0) e3.1 in
      let e5 = meets_list (codes "first") c.first c.width n4 n5 p.m4 p.m5 s (Ok first) h5 f.first p.first (width_of s c e1.0) e4.1 in
      let e6 = meets_stages c before n5 n6 rest s (Ok stages) h6 f p e1.0 e5.1 in
      ((λ i. record { width = (e1.0 i).width; rank = (e1.0 i).rank; order = e2.0 i; rays = e3.0 i; points = e4.0 i; first = e5.0 i; above = (e6.0 i).plus; beneath = (e6.0 i).minus }), e6.1);
}

pub err_same : {A : Type 0} (x y : CertTextRefusal) → ◌≡◌ {A = Result A CertTextRefusal} (Err x) (Err y) → x ≡ y
err_same x y e = cc

pub ok_is_not_err : {A : Type 0} (a : A) (x : CertTextRefusal) → ◌≡◌ {A = Result A CertTextRefusal} (Ok a) (Err x) → ⊥
ok_is_not_err a x e = cc
