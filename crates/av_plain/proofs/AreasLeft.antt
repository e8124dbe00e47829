-- What events prepare, and what is left of the anon_vmas once areas changed: of none nothing, and never two answers.
use Rattle.std.proofs.Common.{◌≡◌, ℕ, suc, ◌<◌, ◌≤◌, Bool, true, false, ◌==◌, ◌||◌, nat_lt, ◌⊎◌, inl, inr, List, [], ◌∷◌, ◌++◌, Option, Some, None, refl, sym, ap, subst, ◌∙◌, arith}
use Rattle.std.proofs.lemmas.Bool.{false≢true}
use Rattle.std.proofs.lemmas.Bool.Decides.{nat_tests}
use Rattle.std.specs.Prelude.{IfSome, IsSome, IsSomeAnd, if◌then◌else◌}
use Rattle.av_base.specs.Keys.{Key}
use Rattle.av_base.specs.Page.{page_of}
use Rattle.av_base.specs.Words.{is_in, with_at}
use Rattle.av_base.specs.declared.flags.Flag.{Flag}
use Rattle.av_vma.specs.declared.area.Area.{Area}
use Rattle.av_plain.specs.Stands.{AnonsStand, View}
use Rattle.av_plain.specs.Areas.{AnonVma, Anons, AreLeft, Areas, Homes, IsLinked, Rmap, chain_length, chain_by, no_anons, prepare_page, rmap_after, rmap_after_all, rmap_after_flag, rmap_after_note, rmap_after_use, with_root}
use Rattle.av_base.specs.declared.slot.Slot.{Slot}
use Rattle.av_plain.specs.Event.{Event, Noted, Zapped, Used, Forked, EntriesMoved, TurnedOn, TurnedOff, FlagSet, after, after_all, note_events, when}
use Rattle.av_plain.specs.Ledger.{Entry, InFrame, InSlot, Ledger, Zero, entry, is_orphan}
use Rattle.av_plain.specs.Zap.{orphan_drop, slot_behind_key, zap_of, zaps_of}
use Rattle.av_trace.specs.declared.note.Note.{Note}
use Rattle.av_trace.specs.declared.note.Note.TheVariants.{Zeroed, New, Copied, Loaded, Mapped, Put, Unmapped, Started, Written, Failed, Dropped, Kept, Aged}
use Rattle.av_vma.specs.Pages.{Pages, makes_anon}
use Rattle.av_plain.specs.Event.{FreeSorted}
use Rattle.av_plain.specs.Areas.{Items}
use Rattle.av_trace.specs.declared.note.Note.TheVariants.{Joined, Moved, Shared}

-- where no anon_vma was made none is left
pub left-none : (on : Areas) → AreLeft no_anons on no_anons
left-none on = record { next = refl; there = λ v h. absurd cc; linked = λ v h. refl }

-- what is left at one number
one-left : (old x y : Option AnonVma) (L : Type 0) → (IsSome x → L) → (IsSome y → L) → (L → x ≡ old) → (L → y ≡ old) → x ≡ y
one-left old None None L p q f g = refl
one-left old None (Some y) L p q f g = f (q refl) ∙ sym (g (q refl))
one-left old (Some x) y L p q f g = f (p refl) ∙ sym (g (p refl))

pub left-one : (anons : Anons) (on : Areas) (a b : Anons) → AreLeft anons on a → AreLeft anons on b → a ≡ b
left-one anons on a b h g =
    let anon : (v : ℕ) → a.anon v ≡ b.anon v = λ v. one-left (anons.anon v) (a.anon v) (b.anon v) (IsLinked anons on v) (h.there v)
    (g.there v) (h.linked v) (g.linked v) in
    let next : a.next ≡ b.next = h.next ∙ sym g.next in
    λ i. record { next = next i; anon = λ v. anon v i }

-- of none no chain has a node
pub no-chain : (own : Option ℕ) → chain_by no_anons own ≡ []
no-chain None = refl
no-chain (Some v) = refl

-- the anon_vmas that a view shows stand for themselves
pub anons-same : (v : View) (areas : Areas) → AnonsStand v areas v.anons
anons-same v areas = record { next = refl; kin = λ n. refl; chains = λ p page. by (areas p page) }
  where
    by : (o : Option Area) → IfSome o (λ area. chain_by v.anons area.anon ≡ chain_by v.anons area.anon)
    by None = tt
    by (Some area) = refl

-- after some events, and then after others
pub rmap_after_all-append : (l : Ledger) (es fs : List Event) (r : Rmap)
    → rmap_after_all l (es ++ fs) r ≡ rmap_after_all (after_all l es) fs (rmap_after_all l es r)
rmap_after_all-append l [] fs r = refl
rmap_after_all-append l (e ∷ es) fs r = rmap_after_all-append (after l e) es fs (rmap_after l e r)

-- entries that go leave it
drop_leaves : (l : Ledger) (o : Option Slot) (m : Ledger) (r : Rmap) → rmap_after_all m (orphan_drop l o) r ≡ r
drop_leaves l None m r = refl
drop_leaves l (Some s) m r = by (is_orphan l s)
  where
    by : (b : Bool) → rmap_after_all m (note_events (when b (Dropped s))) r ≡ r
    by true = refl
    by false = refl

pub rmap_after_all-zaps : (l : Ledger) (ks : List Key) (m : Ledger) (r : Rmap) → rmap_after_all m (zaps_of l ks) r ≡ r
rmap_after_all-zaps l [] m r = refl
rmap_after_all-zaps l (k ∷ ks) m r =
    rmap_after_all-append m (zap_of l k) (zaps_of (after_all l (zap_of l k)) ks) r
    ∙ rmap_after_all-zaps (after_all l (zap_of l k)) ks (after_all m (zap_of l k)) (rmap_after_all m (zap_of l k) r)
    ∙ drop_leaves (after l (Zapped k)) (slot_behind_key l (entry l k)) (after m (Zapped k)) r

-- what each page that is prepared keeps, and each frame's coming home, an event keeps; but for a flag that is set
pub rmap_after-keeps : (P : Rmap → Type 0) → ((p page : ℕ) (r : Rmap) → P r → P (prepare_page p page r))
    → ((homes : Homes) (items : Items) (r : Rmap) → P r → P (record r { homes = homes; items = items })) → (l : Ledger) (e : Event) (r : Rmap)
    → ((p from n : ℕ) (flag : Flag) (set : Bool) → e ≡ FlagSet p from n flag set → P (rmap_after_flag p from n flag set r))
    → P r → P (rmap_after l e r)
rmap_after-keeps P keeps homes l e r flags h = event e refl
  where
    note : (n : Note) → P (rmap_after_note l n r)
    note (New p a f) = homes _ _ _ (keeps p (page_of a) r h)
    note (Zeroed p a) = h
    note (Copied p a f) = homes _ _ r h
    note (Loaded s f) = homes _ _ r h
    note (Mapped p a f) = h
    note (Put f s) = h
    note (Unmapped f) = h
    note (Started s) = h
    note (Written s) = h
    note (Failed s) = h
    note (Dropped s) = h
    note (Kept f cause) = h
    note (Aged f) = h
    note (Shared f) = homes _ _ r h
    note (Joined p a f) = homes _ _ r h
    note (Moved from to) = homes _ _ r h

    through : (write : Bool) (k : Key) (o : Option Entry) → P (rmap_after_use write k o r)
    through true k None = h
    through true k (Some Zero) = h
    through true k (Some (InFrame f seen)) = homes _ _ r h
    through true k (Some (InSlot s)) = h
    through false k o = h

    event : (x : Event) → e ≡ x → P (rmap_after l x r)
    event (Noted n) is = note n
    event (Zapped k) is = h
    event (Used write k) is = through write k (entry l k)
    event (Forked p q pages) is = h
    event (FlagSet p from n flag set) is = flags p from n flag set is
    event (EntriesMoved p n from to) is = h
    event (TurnedOn k area) is = h
    event (TurnedOff k) is = h
    event FreeSorted is = h

-- so do all events what flags keep, too
pub rmap_after_all-keeps : (P : Rmap → Type 0) → ((p page : ℕ) (r : Rmap) → P r → P (prepare_page p page r))
    → ((homes : Homes) (items : Items) (r : Rmap) → P r → P (record r { homes = homes; items = items }))
    → ((p from n : ℕ) (flag : Flag) (set : Bool) (r : Rmap) → P r → P (rmap_after_flag p from n flag set r))
    → (l : Ledger) (es : List Event) (r : Rmap) → P r → P (rmap_after_all l es r)
rmap_after_all-keeps P keeps homes flags l [] r h = h
rmap_after_all-keeps P keeps homes flags l (e ∷ es) r h = rmap_after_all-keeps P keeps homes flags (after l e) es (rmap_after l e r)
    (rmap_after-keeps P keeps homes l e r (λ p from n flag set is. flags p from n flag set r h) h)

-- the areas and the anon_vmas go by the notes, and by the flags that are set, alone
abbrev pub prepare_note : Note → Rmap → Rmap
prepare_note (New p a f) r = prepare_page p (page_of a) r
prepare_note note r = r

abbrev pub prepare_event : Event → Rmap → Rmap
prepare_event (Noted note) r = prepare_note note r
prepare_event (FlagSet p from n flag set) r = rmap_after_flag p from n flag set r
prepare_event event r = r

abbrev pub prepare_events : List Event → Rmap → Rmap
prepare_events [] r = r
prepare_events (e ∷ es) r = prepare_events es (prepare_event e r)

-- the same areas and anon_vmas
pub record AreSame (r r' : Rmap) : Type 0 where
  pub areas : r.areas ≡ r'.areas
  pub anons : r.anons ≡ r'.anons

same_prepared : (p page : ℕ) (r r' : Rmap) → AreSame r r' → AreSame (prepare_page p page r) (prepare_page p page r')
same_prepared p page r r' h =
    let both : (homes : Homes) → prepare_page p page (record { areas = r.areas; anons = r.anons; homes = homes; items = r.items }) ≡ prepare_page p page
    (record { areas = r'.areas; anons = r'.anons; homes = homes; items = r.items }) =
    λ homes i. prepare_page p page (record { areas = h.areas i; anons = h.anons i; homes = homes; items = r.items }) in
    record { areas = ap (λ (x : Rmap). x.areas) (both r.homes); anons = ap (λ (x : Rmap). x.anons) (both r.homes) }

same_flagged : (p from n : ℕ) (flag : Flag) (set : Bool) (r r' : Rmap) → AreSame r r'
    → AreSame (rmap_after_flag p from n flag set r) (rmap_after_flag p from n flag set r')
same_flagged p from n flag set r r' h =
    let both : (homes : Homes) → rmap_after_flag p from n flag set (record { areas = r.areas; anons = r.anons; homes = homes; items = r.items })
    ≡ rmap_after_flag p from n flag set (record { areas = r'.areas; anons = r'.anons; homes = homes; items = r.items }) =
    λ homes i. rmap_after_flag p from n flag set (record { areas = h.areas i; anons = h.anons i; homes = homes; items = r.items }) in
    record { areas = ap (λ (x : Rmap). x.areas) (both r.homes); anons = h.anons }

pub rmap_after_all-notes : (l : Ledger) (es : List Event) (r r' : Rmap) → AreSame r r'
    → AreSame (rmap_after_all l es r) (prepare_events es r')
rmap_after_all-notes l [] r r' h = h
rmap_after_all-notes l (Noted n ∷ es) r r' h = rmap_after_all-notes (after l (Noted n)) es (rmap_after_note l n r) (prepare_note n r') (note n)
  where
    note : (n : Note) → AreSame (rmap_after_note l n r) (prepare_note n r')
    note (New p a f) = let both = same_prepared p (page_of a) r r' h in record { areas = both.areas; anons = both.anons }
    note (Zeroed p a) = h
    note (Copied p a f) = record { areas = h.areas; anons = h.anons }
    note (Loaded s f) = record { areas = h.areas; anons = h.anons }
    note (Mapped p a f) = h
    note (Put f s) = h
    note (Unmapped f) = h
    note (Started s) = h
    note (Written s) = h
    note (Failed s) = h
    note (Dropped s) = h
    note (Kept f cause) = h
    note (Aged f) = h
    note (Shared f) = record { areas = h.areas; anons = h.anons }
    note (Joined p a f) = record { areas = h.areas; anons = h.anons }
    note (Moved from to) = record { areas = h.areas; anons = h.anons }
rmap_after_all-notes l (Zapped k ∷ es) r r' h = rmap_after_all-notes (after l (Zapped k)) es r r' h
rmap_after_all-notes l (Used write k ∷ es) r r' h = rmap_after_all-notes (after l (Used write k)) es (rmap_after_use write k (entry l k) r) r'
    (through write (entry l k))
  where
    through : (write : Bool) (o : Option Entry) → AreSame (rmap_after_use write k o r) r'
    through true None = h
    through true (Some Zero) = h
    through true (Some (InFrame f seen)) = record { areas = h.areas; anons = h.anons }
    through true (Some (InSlot s)) = h
    through false o = h
rmap_after_all-notes l (Forked p q pages ∷ es) r r' h = rmap_after_all-notes (after l (Forked p q pages)) es r r' h
rmap_after_all-notes l (FlagSet p from n flag set ∷ es) r r' h =
    rmap_after_all-notes (after l (FlagSet p from n flag set)) es (rmap_after_flag p from n flag set r) (rmap_after_flag p from n flag set r')
    (same_flagged p from n flag set r r' h)
rmap_after_all-notes l (FreeSorted ∷ es) r r' h = rmap_after_all-notes (after l FreeSorted) es r r' h
rmap_after_all-notes l (EntriesMoved p n from to ∷ es) r r' h = rmap_after_all-notes (after l (EntriesMoved p n from to)) es r r' h
rmap_after_all-notes l (TurnedOn k area ∷ es) r r' h = rmap_after_all-notes (after l (TurnedOn k area)) es r r' h
rmap_after_all-notes l (TurnedOff k ∷ es) r r' h = rmap_after_all-notes (after l (TurnedOff k)) es r r' h

-- ---- numbers that were given

-- each anon_vma that is there has a number below the next one
abbrev pub AreBelow : Anons → Type 0
AreBelow anons = (v : ℕ) → anons.next ≤ v → anons.anon v ≡ None

below-prepare_page : (p page : ℕ) (r : Rmap) → AreBelow r.anons → AreBelow (prepare_page p page r).anons
below-prepare_page p page r h = by (makes_anon (chain_length r.anons) (r.areas p) (r.areas p page))
  where
    root : (x : AnonVma) (v : ℕ) → suc r.anons.next ≤ v → (b : Bool) → (v == r.anons.next) ≡ b
        → (if b then Some x else r.anons.anon v) ≡ None
    root x v above true is = let e : v ≡ r.anons.next = grind (arith, nat_tests, is) in absurd (omega (arith, above, e))
    root x v above false is = h v (omega (arith, above))

    by : (b : Bool) → AreBelow (if b then with_root r.anons else r.anons)
    by true = λ v above. root _ v above (v == r.anons.next) refl
    by false = h

pub below-all : (l : Ledger) (es : List Event) (r : Rmap) → AreBelow r.anons → AreBelow (rmap_after_all l es r).anons
below-all l es r h = rmap_after_all-keeps (λ r. AreBelow r.anons) below-prepare_page (λ homes items r h. h) (λ p from n flag set r h. h) l es r h

pub below-left : (anons : Anons) (on : Areas) (left : Anons) → AreLeft anons on left → AreBelow anons → AreBelow left
below-left anons on left is h v above = by (left.anon v) refl
  where
    by : (o : Option AnonVma) → left.anon v ≡ o → left.anon v ≡ None
    by None e = e
    by (Some x) e = is.linked v (is.there v (subst IsSome (sym e) refl)) ∙ h v (subst (λ n. n ≤ v) is.next above)

-- where each is linked all are left
pub left-all : (anons : Anons) (on : Areas) → AreBelow anons → ((v : ℕ) → v < anons.next → IsSome (anons.anon v) → IsLinked anons on v)
    → AreLeft anons on anons
left-all anons on below linked = record { next = refl; there = λ v h. there v (nat_lt v anons.next) refl h; linked = λ v h. refl }
  where
    there : (v : ℕ) (b : Bool) → nat_lt v anons.next ≡ b → IsSome (anons.anon v) → IsLinked anons on v
    there v true is h = linked v (grind (arith, nat_tests, is)) h
    there v false is h =
        let none : None ≡ anons.anon v = sym (below v (grind (arith, nat_tests, is))) in
        absurd (no_some (anons.anon v) (sym none) h)
      where
        no_some : (o : Option AnonVma) → o ≡ None → IsSome o → ⊥
        no_some None e h = cc
        no_some (Some x) e h = cc

-- where no area has an anon_vma none is left
pub left-bare : (anons : Anons) (on : Areas) → ((p page : ℕ) → IfSome (on p page) (λ area. area.anon ≡ None))
    → AreLeft anons on (record { next = anons.next; anon = λ _. None })
left-bare anons on bare = record { next = refl; there = λ v h. absurd cc; linked = λ v h. absurd (none v (on h.0 h.1) (bare h.0 h.1) h.2) }
  where
    none : (v : ℕ) (o : Option Area) → IfSome o (λ area. area.anon ≡ None)
        → IsSomeAnd o (λ area. is_in v (chain_by anons area.anon) ≡ true) → ⊥
    none v None h g = absurd g
    none v (Some area) h g = false≢true (subst (λ own. is_in v (chain_by anons own) ≡ true) h g)

-- where areas have this one, whose chain has no other, or none, it alone is left
pub left-root : (anons : Anons) (on : Areas) (v : ℕ) → chain_by anons (Some v) ≡ v ∷ [] → IsLinked anons on v
    → ((p page : ℕ) → IfSome (on p page) (λ area. (area.anon ≡ None) ⊎ (area.anon ≡ Some v)))
    → AreLeft anons on (record { next = anons.next; anon = with_at v (anons.anon v) (λ _. None) })
left-root anons on v chain there owns = record {
  next = refl;
  there = λ w. is_there w (w == v) refl;
  linked = λ w h. same w (own w (on h.0 h.1) (owns h.0 h.1) h.2) (w == v) refl;
}
  where
    is_there : (w : ℕ) (b : Bool) → (w == v) ≡ b → IsSome (if b then anons.anon v else None) → IsLinked anons on w
    is_there w true is h = let e : v ≡ w = grind (arith, nat_tests, is) in subst (IsLinked anons on) e there
    is_there w false is h = absurd cc

    own : (w : ℕ) (o : Option Area) → IfSome o (λ area. (area.anon ≡ None) ⊎ (area.anon ≡ Some v))
        → IsSomeAnd o (λ area. is_in w (chain_by anons area.anon) ≡ true) → w ≡ v
    own w None h g = absurd g
    own w (Some area) (inl h) g = absurd (false≢true (subst (λ own. is_in w (chain_by anons own) ≡ true) h g))
    own w (Some area) (inr h) g =
        let e : ((w == v) || false) ≡ true = subst (λ c. is_in w c ≡ true) chain (subst (λ own. is_in w (chain_by anons own) ≡ true) h g) in
        grind (arith, nat_tests, e)

    same : (w : ℕ) → w ≡ v → (b : Bool) → (w == v) ≡ b → (if b then anons.anon v else None) ≡ anons.anon w
    same w e true is = ap anons.anon (sym e)
    same w e false is = absurd (grind (arith, nat_tests, is, e))

-- what holds of one process's pages, and of those of each other one
pub holds-with_at : (P : Option Area → Type 0) (p : ℕ) (x : Pages) (on : Areas) → ((page : ℕ) → P (x page))
    → ((q page : ℕ) → (q == p) ≡ false → P (on q page)) → (q page : ℕ) → P (with_at p x on q page)
holds-with_at P p x on here others q page = by (q == p) refl
  where
    by : (b : Bool) → (q == p) ≡ b → P ((if b then x else on q) page)
    by true is = here page
    by false is = others q page is
