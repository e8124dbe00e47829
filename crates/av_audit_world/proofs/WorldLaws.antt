-- What is kept of processes goes with the memories.
use Rattle.std.proofs.Common.{◌≡◌, ℕ, suc, ◌<◌, ◌≤◌, List, [], ◌∷◌, Bool, true, false, cond, not, ◌&&◌, ◌==◌, Option, Some, None, T, is_some, length, refl, sym, ap, subst, ◌∙◌, arith, zero, ◌+◌}
use Rattle.std.specs.Prelude.{IfSome, option_and_then, option_map}
use Rattle.std.specs.Option.{option_map_or}
use Rattle.av_base.specs.Limits.{top_page}
use Rattle.av_base.specs.Page.{page_size}
use Rattle.av_base.specs.declared.flags.Flags.{Flags}
use Rattle.av_base.specs.declared.prot.Prot.{Prot}
use Rattle.av_plain.specs.Fault.{permits}
use Rattle.av_plain.specs.Mremap.{marks_at}
use Rattle.std.proofs.lemmas.Bool.{ne_eqb}
use Rattle.std.proofs.lemmas.Bool.Decides.{nat_tests}
use Rattle.std.specs.declared.cmp.Ordering.{Ordering}
use Rattle.std.specs.declared.cmp.Ordering.TheVariants.{Less, Equal, Greater}
use Rattle.std.specs.Cmp.{nat_cmp_is, ranked}
use Rattle.std.specs.Ordering.{nat_cmp, eq_by_cmp, match_ordering, is_eq, is_lt}
use Rattle.std.specs.FinMap.Entries.{by_order, put, find, is_sorted, below_all, where_key, is_sorted-where_key}
use Rattle.std.specs.BTreeMap.{insert_entry, is_at}
use Rattle.std.specs.Map.{lookup, remove_entry, set_value}
use Rattle.av_plain.specs.World.{Page, Process, World, allows, is_locked_page, end_process, lives, no_pages, pages, process, set_process, meets, pages_to_hole, pages_to_locked}
use Rattle.av_plain.proofs.World.{is_sorted-set}
use Rattle.av_audit_world.specs.Memories.{AreSpaces, IsProcess, IsWorld}
use Rattle.av_audit_ranges.specs.Ranges.{marks_at as said_at}
use Rattle.av_audit_world.specs.Space.{IsPage, IsSpace, marks_of}
use Rattle.av_audit_ranges.specs.declared.marks.Marks.{Marks}
use Rattle.av_audit_world.specs.declared.memories.Memories.{Memories}
use Rattle.av_audit_world.specs.declared.space.Space.{Space}

-- the two are as long
pub spaces-length : (ss : List (ℕ × Space)) (w : World) → AreSpaces ss w → length ss ≡ length w
spaces-length [] [] h = refl
spaces-length [] (q ∷ qs) h = absurd h
spaces-length (s ∷ ss) [] h = absurd h
spaces-length (s ∷ ss) (q ∷ qs) h = ap suc (spaces-length ss qs h.2)

-- where one has a process, so has the other
pub spaces-find : (ss : List (ℕ × Space)) (w : World) (p : ℕ) → AreSpaces ss w
    → IsProcess (lookup (is_at (nat_cmp p)) ss) (process w p)
spaces-find [] [] p h = tt
spaces-find [] (q ∷ qs) p h = absurd h
spaces-find (s ∷ ss) [] p h = absurd h
spaces-find (s ∷ ss) (q ∷ qs) p h = subst
    (λ n. IsProcess (cond (is_at (nat_cmp p) s.0) (Some s.1) (lookup (is_at (nat_cmp p)) ss))
    (cond (eq_by_cmp nat_cmp p n) (Some q.1) (find nat_cmp p qs))) h.0
    (by (eq_by_cmp nat_cmp p s.0) (spaces-find ss qs p h.2))
  where
    by : (b : Bool) → IsProcess (lookup (is_at (nat_cmp p)) ss) (process qs p)
        → IsProcess (cond b (Some s.1) (lookup (is_at (nat_cmp p)) ss)) (cond b (Some q.1) (find nat_cmp p qs))
    by true rest = h.1
    by false rest = rest

process-some : (o : Option Space) (q : Option Process) → IsProcess o q → is_some o ≡ is_some q
process-some None None h = refl
process-some None (Some q) h = absurd h
process-some (Some s) None h = absurd h
process-some (Some s) (Some q) h = refl

pub spaces-lives : (ss : List (ℕ × Space)) (w : World) (p : ℕ) → AreSpaces ss w
    → is_some (lookup (is_at (nat_cmp p)) ss) ≡ lives w p
spaces-lives ss w p h = process-some (lookup (is_at (nat_cmp p)) ss) (process w p) (spaces-find ss w p h)

-- a process is put into both
pub spaces-put : (ss : List (ℕ × Space)) (w : World) (p : ℕ) (s : Space) (q : Process) → AreSpaces ss w
    → IsSpace s q → AreSpaces (insert_entry nat_cmp ss p s) (set_process w p q)
spaces-put [] [] p s q h is = (refl, is, tt)
spaces-put [] (e ∷ es) p s q h is = absurd h
spaces-put (d ∷ ds) [] p s q h is = absurd h
spaces-put (d ∷ ds) (e ∷ es) p s q h is = subst
    (λ n. AreSpaces (match_ordering (nat_cmp p d.0) ((p, s) ∷ d ∷ ds) ((d.0, s) ∷ ds) (d ∷ insert_entry nat_cmp ds p s))
    (by_order (nat_cmp p n) ((p, q) ∷ e ∷ es) ((e.0, q) ∷ es) (e ∷ put nat_cmp p q es))) h.0
    (by (nat_cmp p d.0) (spaces-put ds es p s q h.2 is))
  where
    by : (o : Ordering) → AreSpaces (insert_entry nat_cmp ds p s) (set_process es p q)
        → AreSpaces (match_ordering o ((p, s) ∷ d ∷ ds) ((d.0, s) ∷ ds) (d ∷ insert_entry nat_cmp ds p s))
        (by_order o ((p, q) ∷ e ∷ es) ((e.0, q) ∷ es) (e ∷ put nat_cmp p q es))
    by Less rest = (refl, is, h)
    by Equal rest = (h.0, is, h.2)
    by Greater rest = (h.0, h.1, rest)

-- ---- one that is there

lt-less : (o : Ordering) → T (is_lt o) → o ≡ Less
lt-less Less h = refl
lt-less Equal h = absurd h
lt-less Greater h = absurd h

both-of : (a b : Bool) → T (a && b) → T a × T b
both-of true b h = (tt, h)
both-of false b h = absurd h

-- no number below all is in the list
below-none : (p x : ℕ) (es : World) → p < x → T (below_all nat_cmp x es) → is_some (find nat_cmp p es) ≡ false
below-none p x [] less h = refl
below-none p x (e ∷ es) less h =
    let parts = both-of (is_lt (nat_cmp x e.0)) (below_all nat_cmp x es) h in
    let above : x < e.0 = ranked x e.0 Less (sym (lt-less (nat_cmp x e.0) parts.0)) in
    let is : nat_cmp p e.0 ≡ Less = sym (nat_cmp_is p e.0 Less (omega (arith, less, above))) in
    ap (λ o. is_some (cond (is_eq o) (Some e.1) (find nat_cmp p es))) is ∙ below-none p x es less parts.1

-- a process that is there is changed where it stands
pub spaces-set : (ss : List (ℕ × Space)) (w : World) (p : ℕ) (s : Space) (q : Process) → T (is_sorted nat_cmp w)
    → AreSpaces ss w → is_some (process w p) ≡ true → IsSpace s q
    → AreSpaces (set_value (is_at (nat_cmp p)) ss s) (set_process w p q)
spaces-set [] [] p s q order h some is = cc
spaces-set [] (e ∷ es) p s q order h some is = absurd h
spaces-set (d ∷ ds) [] p s q order h some is = absurd h
spaces-set (d ∷ ds) (e ∷ es) p s q order h some is =
    subst (λ n. AreSpaces (cond (is_eq (nat_cmp p n)) ((d.0, s) ∷ ds) (d ∷ set_value (is_at (nat_cmp p)) ds s))
    (by_order (nat_cmp p e.0) ((p, q) ∷ e ∷ es) ((e.0, q) ∷ es) (e ∷ put nat_cmp p q es))) (sym h.0)
    (by (nat_cmp p e.0) refl (λ later. spaces-set ds es p s q (both-of _ _ order).1 h.2 later is) some)
  where
    none-some : (b : Bool) → b ≡ true → b ≡ false → ⊥
    none-some b h g = cc

    by : (o : Ordering) → nat_cmp p e.0 ≡ o
        → (is_some (process es p) ≡ true → AreSpaces (set_value (is_at (nat_cmp p)) ds s) (set_process es p q))
        → is_some (cond (is_eq o) (Some e.1) (find nat_cmp p es)) ≡ true
        → AreSpaces (cond (is_eq o) ((d.0, s) ∷ ds) (d ∷ set_value (is_at (nat_cmp p)) ds s))
        (by_order o ((p, q) ∷ e ∷ es) ((e.0, q) ∷ es) (e ∷ put nat_cmp p q es))
    by Less at later some = absurd (none-some (is_some (find nat_cmp p es)) some
        (below-none p e.0 es (ranked p e.0 Less (sym at)) (both-of _ _ order).0))
    by Equal at later some = (h.0, is, h.2)
    by Greater at later some = (h.0, h.1, later some)

-- ---- one that goes

all-stay : (p : ℕ) (w : World) (x : ℕ) → p ≡ x → T (below_all nat_cmp x w) → where_key nat_cmp (λ q. not (q == p)) w ≡ w
all-stay p [] x same h = refl
all-stay p (e ∷ es) x same h =
    let parts = both-of (is_lt (nat_cmp x e.0)) (below_all nat_cmp x es) h in
    let above : x < e.0 = ranked x e.0 Less (sym (lt-less (nat_cmp x e.0) parts.0)) in
    let other : (e.0 == p) ≡ false = ne_eqb e.0 p (λ s. omega (arith, same, above, s)) in
    ap (λ b. cond (not b) (e ∷ where_key nat_cmp (λ q. not (q == p)) es) (where_key nat_cmp (λ q. not (q == p)) es)) other
    ∙ ap (λ r. e ∷ r) (all-stay p es x same parts.1)

eqb-refl : (n : ℕ) → (n == n) ≡ true
eqb-refl n = grind (arith, nat_tests)

pub spaces-remove : (ss : List (ℕ × Space)) (w : World) (p : ℕ) → T (is_sorted nat_cmp w) → AreSpaces ss w
    → AreSpaces (remove_entry (is_at (nat_cmp p)) ss) (end_process w p)
spaces-remove [] [] p order h = tt
spaces-remove [] (e ∷ es) p order h = absurd h
spaces-remove (d ∷ ds) [] p order h = absurd h
spaces-remove (d ∷ ds) (e ∷ es) p order h = by (nat_cmp p d.0) refl (spaces-remove ds es p (both-of _ _ order).1 h.2)
  where
    by : (o : Ordering) → nat_cmp p d.0 ≡ o → AreSpaces (remove_entry (is_at (nat_cmp p)) ds) (end_process es p)
        → AreSpaces (cond (is_eq o) ds (d ∷ remove_entry (is_at (nat_cmp p)) ds)) (end_process (e ∷ es) p)
    by Equal at rest =
        let same : p ≡ d.0 = ranked p d.0 Equal (sym at) in
        let here : (e.0 == p) ≡ true = ap (λ x. x == p) (sym (same ∙ h.0)) ∙ eqb-refl p in
        subst (AreSpaces ds) (sym (ap (λ b. cond (not b) (e ∷ end_process es p) (end_process es p)) here
        ∙ all-stay p es e.0 (same ∙ h.0) (both-of _ _ order).0)) h.2
    by Less at rest =
        let less : p < d.0 = ranked p d.0 Less (sym at) in
        let same = h.0 in
        let other : (e.0 == p) ≡ false = ne_eqb e.0 p (λ s. omega (arith, less, same, s)) in
        subst (AreSpaces (d ∷ remove_entry (is_at (nat_cmp p)) ds))
        (sym (ap (λ b. cond (not b) (e ∷ end_process es p) (end_process es p)) other)) (h.0, h.1, rest)
    by Greater at rest =
        let more : d.0 < p = ranked p d.0 Greater (sym at) in
        let same = h.0 in
        let other : (e.0 == p) ≡ false = ne_eqb e.0 p (λ s. omega (arith, more, same, s)) in
        subst (AreSpaces (d ∷ remove_entry (is_at (nat_cmp p)) ds))
        (sym (ap (λ b. cond (not b) (e ∷ end_process es p) (end_process es p)) other)) (h.0, h.1, rest)

-- ---- the pages of one that is there

pub found : (o : Option Space) (w : World) (p : ℕ) (s : Space) → IsProcess o (process w p) → o ≡ Some s
    → (lives w p ≡ true) × IsSpace s (pages w p)
found o w p s h is = by (process w p) refl (subst (λ o. IsProcess o (process w p)) is h)
  where
    by : (q : Option Process) → process w p ≡ q → IsProcess (Some s) q → (lives w p ≡ true) × IsSpace s (pages w p)
    by None e h = absurd h
    by (Some q) e h = (ap is_some e, subst (IsSpace s) (λ i page. option_and_then (λ (q : Process). q page) (sym e i)) h)

pub dead : (o : Option Space) (w : World) (p : ℕ) → IsProcess o (process w p) → o ≡ None → lives w p ≡ true → ⊥
dead o w p h is alive = differ (sym alive ∙ sym (process-some o (process w p) h) ∙ ap is_some is)
  where
    differ : true ≡ false → ⊥
    differ e = cc

-- ---- order

pub true-of : {b : Bool} → b ≡ true → T b
true-of e = subst T (sym e) tt

of-true : (b : Bool) → T b → b ≡ true
of-true true h = refl
of-true false h = absurd h

pub sorted-set : (w : World) (p : ℕ) (q : Process) → is_sorted nat_cmp w ≡ true → is_sorted nat_cmp (set_process w p q) ≡ true
sorted-set w p q h = of-true (is_sorted nat_cmp (set_process w p q)) (is_sorted-set w p q (true-of h))

pub sorted-end : (w : World) (p : ℕ) → is_sorted nat_cmp w ≡ true → is_sorted nat_cmp (end_process w p) ≡ true
sorted-end w p h = of-true (is_sorted nat_cmp (end_process w p)) (is_sorted-where_key nat_cmp (λ q. not (q == p)) w (true-of h))

-- ---- what is said of a page

marks-is : (k : Option Marks) (at : ℕ → ℕ) (p : Option Page) → IsPage k at p → option_map marks_of k ≡ option_map (λ (p : Page). (p.prot, p.flags)) p
marks-is None at None h = refl
marks-is None at (Some p) h = absurd h
marks-is (Some k) at None h = absurd h
marks-is (Some k) at (Some p) h = λ i. Some (sym h.0 i, sym h.1 i)

pub no-marks : (o : Option Space) (w : World) (p page : ℕ) → IsProcess o (process w p) → o ≡ None → marks_at (pages w p) page ≡ None
no-marks o w p page h is = by (process w p) refl (subst (λ o. IsProcess o (process w p)) is h)
  where
    by : (q : Option Process) → process w p ≡ q → IsProcess None q → marks_at (pages w p) page ≡ None
    by None e h = ap (λ (q : Option Process). marks_at (λ page. option_and_then (λ (q : Process). q page) q) page) e
    by (Some q) e h = absurd h

pub marks-found : (o : Option Space) (w : World) (p page : ℕ) (s : Space) → IsProcess o (process w p) → o ≡ Some s
    → option_map marks_of (said_at s.ranges page) ≡ marks_at (pages w p) page
marks-found o w p page s h is = marks-is (said_at s.ranges page) _ (pages w p page) ((found o w p s h is).1.pages page)

-- what the marks of a page say of it
pub allowed-by : (write : Bool) (o : Option Page) (marks : Option (Prot × Flags)) → marks ≡ option_map (λ (p : Page). (p.prot, p.flags)) o
    → option_map_or (λ (m : Prot × Flags). allows write m.0) marks false ≡ permits write o
allowed-by write None marks e = ap (λ (m : Option (Prot × Flags)). option_map_or (λ (m : Prot × Flags). allows write m.0) m false) e
allowed-by write (Some p) marks e = ap (λ (m : Option (Prot × Flags)). option_map_or (λ (m : Prot × Flags). allows write m.0) m false) e

pub locked-by : (o : Option Page) (marks : Option (Prot × Flags)) → marks ≡ option_map (λ (p : Page). (p.prot, p.flags)) o
    → option_map_or (λ (m : Prot × Flags). m.1.locked) marks false ≡ is_locked_page o
locked-by None marks e = ap (λ (m : Option (Prot × Flags)). option_map_or (λ (m : Prot × Flags). m.1.locked) m false) e
locked-by (Some p) marks e = ap (λ (m : Option (Prot × Flags)). option_map_or (λ (m : Prot × Flags). m.1.locked) m false) e

-- ---- what each process's pages are like

-- what is so of no page, and of the pages of each process that is kept, is so of each process's
pub of-process : (P : Process → Type 0) (o : Option Space) (q : Option Process) → IsProcess o q → P no_pages
    → ((s : Space) (q : Process) → IsSpace s q → P q) → P (λ page. option_and_then (λ (q : Process). q page) q)
of-process P None None h none each = none
of-process P None (Some q) h none each = absurd h
of-process P (Some s) None h none each = absurd h
of-process P (Some s) (Some q) h none each = each s q h

pub of-world : (P : Process → Type 0) (memories : Memories) (w : World) (p : ℕ) → IsWorld memories w → P no_pages
    → ((s : Space) (q : Process) → IsSpace s q → P q) → P (pages w p)
of-world P memories w p h none each = of-process P (lookup (is_at (nat_cmp p)) memories.spaces.entries) (process w p)
    (spaces-find memories.spaces.entries w p h.spaces) none each

-- no page at the top or above is mapped
pub world-top : (memories : Memories) (w : World) (p page : ℕ) → IsWorld memories w → top_page ≤ page → pages w p page ≡ None
world-top memories w p page h high = of-world (λ q. q page ≡ None) memories w p h refl (λ s q is. is.top page high)

-- each byte of a mapped page is claimed
page-claimed : (k : Option Marks) (at : ℕ → ℕ) (p : Option Page) → IsPage k at p
    → IfSome p (λ (p : Page). (i : ℕ) → i < page_size → is_some (p.bytes i) ≡ true)
page-claimed k at None h = tt
page-claimed None at (Some p) h = absurd h
page-claimed (Some k) at (Some p) h = λ i low. ap is_some (h.2 i low)

pub world-claimed : (memories : Memories) (w : World) (p page : ℕ) → IsWorld memories w
    → IfSome (pages w p page) (λ (p : Page). (i : ℕ) → i < page_size → is_some (p.bytes i) ≡ true)
world-claimed memories w p page h = of-world (λ q. IfSome (q page) (λ (p : Page). (i : ℕ) → i < page_size → is_some (p.bytes i) ≡ true))
    memories w p h tt (λ s q is. page-claimed (said_at s.ranges page) _ (q page) (is.pages page))

-- ---- a process that doesn't live has no pages
pub no-pages : (o : Option Space) (w : World) (p : ℕ) → IsProcess o (process w p) → o ≡ None → pages w p ≡ no_pages
no-pages o w p h is = by (process w p) refl (subst (λ o. IsProcess o (process w p)) is h)
  where
    by : (q : Option Process) → process w p ≡ q → IsProcess None q → pages w p ≡ no_pages
    by None e h = λ i page. option_and_then (λ (q : Process). q page) (e i)
    by (Some q) e h = absurd h

none-met : (from n : ℕ) → meets no_pages from n ≡ false
none-met from zero = refl
none-met from (suc n) = none-met (from + 1) n

hole-at-once : (from n : ℕ) → pages_to_hole no_pages from n ≡ 0
hole-at-once from zero = refl
hole-at-once from (suc n) = refl

none-locked : (from n : ℕ) → pages_to_locked no_pages from n ≡ n
none-locked from zero = refl
none-locked from (suc n) = ap (λ x. x + 1) (none-locked (from + 1) n) ∙ one n
  where
    one : (n : ℕ) → n + 1 ≡ suc n
    one n = omega arith

pub dead-meets : (q : Process) (from n : ℕ) → q ≡ no_pages → false ≡ meets q from n
dead-meets q from n is = sym (ap (λ q. meets q from n) is ∙ none-met from n)

pub dead-hole : (q : Process) (from n : ℕ) → q ≡ no_pages → 0 ≡ pages_to_hole q from n
dead-hole q from n is = sym (ap (λ q. pages_to_hole q from n) is ∙ hole-at-once from n)

pub dead-locked : (q : Process) (from n : ℕ) → q ≡ no_pages → n ≡ pages_to_locked q from n
dead-locked q from n is = sym (ap (λ q. pages_to_locked q from n) is ∙ none-locked from n)
