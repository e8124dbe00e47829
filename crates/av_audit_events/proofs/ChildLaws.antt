-- What a child gets of its parent's entries.
use Rattle.std.proofs.Common.{◌≡◌, ℕ, List, [], ◌∷◌, map, filter, Bool, true, false, cond, ◌||◌, ◌==◌, refl, sym, ap, subst, ◌∙◌, ◌++◌, append_assoc}
use Rattle.std.specs.Prelude.{◌&&◌}
use Rattle.std.proofs.lemmas.Bool.{eqb-true, eq-eqb}
use Rattle.av_base.specs.Keys.{Key}
use Rattle.av_base.specs.Words.{is_in}
use Rattle.av_plain.specs.Event.{entries_where, without_seen}
use Rattle.av_plain.specs.Fork.{goes_over, inheritance}
use Rattle.av_plain.specs.Ledger.{Entry, Ledger}
use Rattle.av_plain.specs.World.{Process}
use Rattle.av_audit_events.proofs.FilterLaws.{keys-where}
use Rattle.av_audit_pages.specs.Entries.{entries_of, entry_of}
use Rattle.av_audit_pages.specs.declared.entries.Entry.{Entry as BookEntry}
use Rattle.av_audit_events.specs.Child.{child_entries, pages_that}

no : false ≡ true → ⊥
no e = cc

-- each page that goes over does
pub pages-go : (goes : ℕ → Bool) (x : ℕ) (es : List (Key × Entry)) → is_in x (pages_that goes es) ≡ true → goes x ≡ true
pages-go goes x [] h = absurd (no h)
pages-go goes x (e ∷ es) h = by (pages-go goes x es) (goes e.0.1) refl h
  where
    here : (b : Bool) → (x == e.0.1) ≡ b → goes e.0.1 ≡ true → (is_in x (pages_that goes es) ≡ true → goes x ≡ true)
        → (b || is_in x (pages_that goes es)) ≡ true → goes x ≡ true
    here true e g later h = ap goes (eqb-true x _ e) ∙ g
    here false e g later h = later h

    by : (is_in x (pages_that goes es) ≡ true → goes x ≡ true) → (b : Bool) → goes e.0.1 ≡ b
        → is_in x (map (λ (k : Key). k.1) (cond b (e.0 ∷ filter (λ k. goes k.1) (map (λ e. e.0) es)) (filter (λ k. goes k.1) (map (λ e. e.0) es)))) ≡ true
        → goes x ≡ true
    by later true g h = here (x == e.0.1) refl g later h
    by later false g h = later h

-- ---- one entry more

module _ (goes : ℕ → Bool) (child : ℕ) (k : Key) (e : Entry) (es : List (Key × Entry)) where
  pages-more : goes k.1 ≡ true → pages_that goes ((k, e) ∷ es) ≡ k.1 ∷ pages_that goes es
  pages-more g = ap (λ b. map (λ (k : Key). k.1) (cond b (k ∷ filter (λ k. goes k.1) (map (λ e. e.0) es)) (filter (λ k. goes k.1) (map (λ e. e.0) es)))) g

  pages-same : goes k.1 ≡ false → pages_that goes ((k, e) ∷ es) ≡ pages_that goes es
  pages-same g = ap (λ b. map (λ (k : Key). k.1) (cond b (k ∷ filter (λ k. goes k.1) (map (λ e. e.0) es)) (filter (λ k. goes k.1) (map (λ e. e.0) es)))) g

  child-more : goes k.1 ≡ true → child_entries child goes ((k, e) ∷ es) ≡ ((child, k.1), without_seen e) ∷ child_entries child goes es
  child-more g = ap (λ b. map (λ e. ((child, e.0.1), without_seen e.1)) (cond b ((k, e) ∷ filter (λ e. goes e.0.1) es) (filter (λ e. goes e.0.1) es))) g

  child-same : goes k.1 ≡ false → child_entries child goes ((k, e) ∷ es) ≡ child_entries child goes es
  child-same g = ap (λ b. map (λ e. ((child, e.0.1), without_seen e.1)) (cond b ((k, e) ∷ filter (λ e. goes e.0.1) es) (filter (λ e. goes e.0.1) es))) g

  inner : {x y : ℕ} {a b : List ℕ} → x ∷ a ≡ y ∷ b → a ≡ b
  inner e = cc

  -- the page is the next that goes over
  pub goes-over : (due more : List ℕ) → due ≡ pages_that goes ((k, e) ∷ es) → due ≡ k.1 ∷ more
      → (more ≡ pages_that goes es) × (child_entries child goes ((k, e) ∷ es) ≡ ((child, k.1), without_seen e) ∷ child_entries child goes es)
  goes-over due more is first = by (goes k.1) refl
    where
      itself : (x : ℕ) (ys : List ℕ) → is_in x (x ∷ ys) ≡ true
      itself x ys = ap (λ b. b || is_in x ys) (eq-eqb x x refl)

      by : (b : Bool) → goes k.1 ≡ b
          → (more ≡ pages_that goes es) × (child_entries child goes ((k, e) ∷ es) ≡ ((child, k.1), without_seen e) ∷ child_entries child goes es)
      by true g = (inner (sym first ∙ is ∙ pages-more g), child-more g)
      by false g = absurd (no (sym g ∙ pages-go goes k.1 es (subst (λ ps. is_in k.1 ps ≡ true) (sym first ∙ is ∙ pages-same g) (itself k.1 more))))

  -- it isn't
  pub stays-behind : (due : List ℕ) → due ≡ pages_that goes ((k, e) ∷ es) → ((more : List ℕ) → due ≡ k.1 ∷ more → ⊥)
      → (due ≡ pages_that goes es) × (child_entries child goes ((k, e) ∷ es) ≡ child_entries child goes es)
  stays-behind due is none = by (goes k.1) refl
    where
      by : (b : Bool) → goes k.1 ≡ b
          → (due ≡ pages_that goes es) × (child_entries child goes ((k, e) ∷ es) ≡ child_entries child goes es)
      by true g = absurd (none (pages_that goes es) (is ∙ pages-more g))
      by false g = (is ∙ pages-same g, child-same g)

-- ---- all of a process's entries

-- those whose page is one that goes over
pub pages-among : (goes : ℕ → Bool) (p : ℕ) (all : List ℕ) → ((x : ℕ) → is_in x all ≡ true → goes x ≡ true) → (es : List (Key × Entry))
    → ((x : ℕ) → is_in x (pages_that goes (filter (λ e. e.0.0 == p) es)) ≡ true → is_in x all ≡ true)
    → filter (λ e. goes e.0.1) (filter (λ e. e.0.0 == p) es) ≡ filter (λ e. e.0.0 == p && is_in e.0.1 all) es
pages-among goes p all go [] among = refl
pages-among goes p all go (e ∷ es) among = by (pages-among goes p all go es) (e.0.0 == p) among
  where
    rest : List (Key × Entry)
    rest = filter (λ e. e.0.0 == p) es

    at : (b c : Bool) → goes e.0.1 ≡ b → is_in e.0.1 all ≡ c
        → ((x : ℕ) → is_in x (pages_that goes (e ∷ rest)) ≡ true → is_in x all ≡ true) → c ≡ b
    at true true g i a = refl
    at true false g i a = sym i ∙ a e.0.1 (subst (λ ps. is_in e.0.1 ps ≡ true) (sym (pages-more goes p e.0 e.1 rest g))
        (ap (λ b. b || is_in e.0.1 (pages_that goes rest)) (eq-eqb e.0.1 e.0.1 refl)))
    at false true g i a = absurd (no (sym g ∙ go e.0.1 i))
    at false false g i a = refl

    fewer : ((x : ℕ) → is_in x (pages_that goes (e ∷ rest)) ≡ true → is_in x all ≡ true)
        → (x : ℕ) → is_in x (pages_that goes rest) ≡ true → is_in x all ≡ true
    fewer a x h = here (goes e.0.1) refl
      where
        wider : (b : Bool) → (b || is_in x (pages_that goes rest)) ≡ true
        wider true = refl
        wider false = h

        here : (b : Bool) → goes e.0.1 ≡ b → is_in x all ≡ true
        here true g = a x (subst (λ ps. is_in x ps ≡ true) (sym (pages-more goes p e.0 e.1 rest g)) (wider (x == e.0.1)))
        here false g = a x (subst (λ ps. is_in x ps ≡ true) (sym (pages-same goes p e.0 e.1 rest g)) h)

    by : (((x : ℕ) → is_in x (pages_that goes rest) ≡ true → is_in x all ≡ true)
        → filter (λ e. goes e.0.1) rest ≡ filter (λ e. e.0.0 == p && is_in e.0.1 all) es)
        → (b : Bool) → ((x : ℕ) → is_in x (pages_that goes (cond b (e ∷ rest) rest)) ≡ true → is_in x all ≡ true)
        → filter (λ e. goes e.0.1) (cond b (e ∷ rest) rest)
        ≡ cond (b && is_in e.0.1 all) (e ∷ filter (λ e. e.0.0 == p && is_in e.0.1 all) es) (filter (λ e. e.0.0 == p && is_in e.0.1 all) es)
    by later true a = λ i. cond (sym (at (goes e.0.1) (is_in e.0.1 all) refl refl a) i) (e ∷ later (fewer a) i) (later (fewer a) i)
    by later false a = later a

-- what goes over, and what the child gets
pub child-gets : (q : Process) (p child : ℕ) (l : Ledger) (pages : List ℕ) → pages ≡ inheritance q l p
    → (pages ≡ pages_that (λ x. goes_over (q x)) (entries_where (λ k. k.0 == p) l))
    × (child_entries child (λ x. goes_over (q x)) (entries_where (λ k. k.0 == p) l)
    ≡ map (λ e. ((child, e.0.1), without_seen e.1)) (entries_where (λ k. k.0 == p && is_in k.1 pages) l))
child-gets q p child l pages is = (
  here,
  ap (map (λ (e : Key × Entry). ((child, e.0.1), without_seen e.1)))
      (pages-among (λ x. goes_over (q x)) p pages (λ x h. pages-go (λ x. goes_over (q x)) x
      (entries_where (λ k. k.0 == p) l) (subst (λ ps. is_in x ps ≡ true) here h)) l.entries
      (λ x h. subst (λ ps. is_in x ps ≡ true) (sym here) h)),
)
  where
    here : pages ≡ pages_that (λ x. goes_over (q x)) (entries_where (λ k. k.0 == p) l)
    here = is ∙ ap (λ ks. map (λ (k : Key). k.1) (filter (λ (k : Key). goes_over (q k.1)) ks)) (sym (keys-where (λ (k : Key). k.0 == p) l.entries))

-- ---- one copy more

entries-append : (xs ys : List (Key × BookEntry)) → entries_of (xs ++ ys) ≡ entries_of xs ++ entries_of ys
entries-append [] ys = refl
entries-append (x ∷ xs) ys = ap (λ r. (x.0, entry_of x.1) ∷ r) (entries-append xs ys)

pub copy-added : (made now : List (Key × BookEntry)) (k : Key) (v : BookEntry) (e : Entry) (rest : List (Key × Entry))
    → now ≡ made ++ (k, v) ∷ [] → entry_of v ≡ e → entries_of now ++ rest ≡ entries_of made ++ (k, e) ∷ rest
copy-added made now k v e rest is says =
    ap (λ es. es ++ rest) (ap entries_of is ∙ entries-append made ((k, v) ∷ []))
    ∙ append_assoc (entries_of made) ((k, entry_of v) ∷ []) rest
    ∙ ap (λ e. entries_of made ++ (k, e) ∷ rest) says
