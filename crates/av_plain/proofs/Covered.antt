-- What holds of areas, anon_vmas and homes at all times: it holds after each event and each change of areas.
pub mod AreaCommands
pub mod Fork
pub mod MergeCommands
pub mod MergedFork
pub mod Merging
pub mod Mremap
pub mod Page
pub mod Slots
pub mod SlotsFork
pub mod Swap
pub mod SwapCommands
pub mod Zaps
use Rattle.std.proofs.Common.{◌≡◌, ℕ, suc, ◌<◌, Bool, true, false, cond, not, ◌==◌, ◌&&◌, ◌||◌, ◌-◌, ◌⊎◌, inl, inr, [], ◌∷◌, Option, Some, None, is_some, option_map, refl, sym, ap, subst, ◌∙◌, arith, T, ◌≤◌}
use Rattle.std.proofs.lemmas.Bool.{false≢true}
use Rattle.std.proofs.lemmas.Bool.Decides.{nat_tests}
use Rattle.std.specs.Prelude.{IfSome, IsSome, IsSomeAnd, unwrap_or}
use Rattle.std.specs.Option.{option_map_or, option_or}
use Rattle.av_base.specs.Keys.{Key, key_cmp, same_key}
use Rattle.av_base.proofs.Without.{count-without}
use Rattle.av_base.proofs.Keys.{same_key-is, same_key-itself}
use Rattle.av_base.specs.Words.{is_in, with_at}
use Rattle.av_vma.specs.declared.area.Area.{Area}
use Rattle.av_vma.specs.Index.{first_of, index_of, past_of}
use Rattle.av_vma.specs.Join.{can_lend}
use Rattle.av_vma.specs.Pages.{AreLaid, Lengths, Pages, after_prepare, has_page, home_of, loan_beside, loan_of, makes_anon, with_anon, with_area}
use Rattle.av_plain.specs.Areas.{AnonVma, Anons, AreLeft, Areas, IsLinked, Rmap, at_home, chain_length, chain_by, prepare_page, root_of, with_root}
use Rattle.av_plain.specs.Covered.{AreMergedCovered, AreSlotsCovered, IsKin, IsReached, IsRmapSound, IsRooted}
use Rattle.av_plain.specs.Event.{set_entry}
use Rattle.av_plain.specs.Ledger.{Entry, InFrame, InSlot, Ledger, Setting, Zero, entry, first_ledger, map_count, names_frame}
use Rattle.av_plain.specs.Transcript.{at_first, rmap_of}
use Rattle.std.specs.FinMap.Entries.{is_sorted}
use Rattle.av_plain.proofs.Chains.{rise-left, rise-rooted}
use Rattle.av_plain.proofs.Ledger.{entry-set, how_many-found, only_one}
use Rattle.av_plain.specs.Sound.{uses}
use Rattle.av_plain.specs.Ledger.{is_free, is_merged}
use Rattle.av_plain.specs.Event.{off_lists, settle, settle_entry}
use Rattle.av_plain.proofs.Sound.Changes.{any-counts, free-is}
use Rattle.av_plain.proofs.Sound.Counts.{same-is}
use Rattle.std.proofs.Common.{nat_lt}
use Rattle.av_base.specs.Words.{how_many, without}

-- the entry of a key names the frame
abbrev pub Names : Ledger → Key → ℕ → Type 0
Names l k f = IsSomeAnd (entry l k) (λ e. names_frame f e ≡ true)

-- the area of a page has this own anon_vma
abbrev pub Owns : Rmap → ℕ → ℕ → ℕ → Type 0
Owns r p page v = IsSomeAnd (r.areas p page) (λ area. area.anon ≡ Some v)

-- ---- chains

-- a chain that has a node is that of an anon_vma that is there
pub chain_there : (anons : Anons) (own : Option ℕ) (v : ℕ) → is_in v (chain_by anons own) ≡ true → (w : ℕ) × (own ≡ Some w) × IsSome (anons.anon w)
chain_there anons None v h = absurd (false≢true h)
chain_there anons (Some w) v h = (w, refl, by (anons.anon w) h)
  where
    by : (o : Option AnonVma) → is_in v (option_map_or (λ (x : AnonVma). x.chain) o []) ≡ true → IsSome o
    by None h = absurd (false≢true h)
    by (Some x) h = refl

-- it is the same once a root was made
chain_rooted : (anons : Anons) (b : Bool) (own : Option ℕ) (v : ℕ) → ((w : ℕ) → IsSome (anons.anon w) → w < anons.next)
    → is_in v (chain_by anons own) ≡ true
    → chain_by (cond b (with_root anons) anons) own ≡ chain_by anons own
chain_rooted anons false own v made h = refl
chain_rooted anons true own v made h = let w = chain_there anons own v h in
    subst (λ o. chain_by (with_root anons) o ≡ chain_by anons o) (sym w.1) (other w.0 (made w.0 w.2) (w.0 == anons.next) refl)
  where
    other : (w : ℕ) → w < anons.next → (c : Bool) → (w == anons.next) ≡ c
        → option_map_or (λ (x : AnonVma). x.chain)
        (cond c (Some (record { root = anons.next; parent = anons.next; chain = anons.next ∷ [] })) (anons.anon w))
        [] ≡ option_map_or (λ (x : AnonVma). x.chain) (anons.anon w) []
    other w less true is = absurd (let e : w ≡ anons.next = grind (arith, nat_tests, is) in omega (arith, less, e))
    other w less false is = refl

-- ---- the entries change

-- an entry that names a frame which isn't merged did so before
abbrev pub NamesToo : Ledger → Ledger → Key → ℕ → Type 0
NamesToo l l' k f = Names l' k f → is_merged l' f ≡ false → Names l k f × (is_merged l f ≡ false)

-- each entry names a frame only if it did
pub sound-fewer : (l l' : Ledger) (r : Rmap) → ((k : Key) (f : ℕ) → NamesToo l l' k f) → IsRmapSound l r → IsRmapSound l' r
sound-fewer l l' r fewer h =
    record { made = h.made; rising = h.rising; own = h.own; covered = λ k f names alone. let x = fewer k f names alone in h.covered k f x.0 x.1 }

-- the frames that are merged, and the entries that name them, are fewer
pub merged-fewer : (l l' : Ledger) (r : Rmap) → ((k : Key) (f : ℕ) → Names l' k f → is_merged l' f ≡ true → Names l k f)
    → ((f : ℕ) → is_merged l' f ≡ true → is_merged l f ≡ true) → AreMergedCovered l r → AreMergedCovered l' r
merged-fewer l l' r names fewer h = record {
  found = λ k f there is. h.found k f (names k f there is) (fewer f is);
  once = λ f item is. h.once f item (fewer f is);
  roots = λ f item is. h.roots f item (fewer f is);
  homeless = λ f is. h.homeless f (fewer f is);
}

-- a frame that isn't merged gets a home
pub merged-homed : (l : Ledger) (r : Rmap) (f : ℕ) (home : Option (ℕ × ℕ)) → is_merged l f ≡ false → AreMergedCovered l r
    → AreMergedCovered l (record r { homes = with_at f home r.homes })
merged-homed l r f home own h = record {
  found = h.found;
  once = h.once;
  roots = h.roots;
  homeless = λ g is. by g is (g == f) refl;
}
  where
    by : (g : ℕ) → is_merged l g ≡ true → (b : Bool) → (g == f) ≡ b → cond b home (r.homes g) ≡ None
    by g is true e = absurd (false≢true (sym own ∙ ap (is_merged l) (sym (same-is g f e)) ∙ is))
    by g is false e = h.homeless g is

-- at first there is nothing
pub sound-first : (m : Setting) → IsRmapSound first_ledger (rmap_of (at_first m))
sound-first m = record {
  made = λ v there. absurd (false≢true there);
  rising = λ v. tt;
  own = λ p page v is. absurd is;
  covered = λ k f names alone. absurd names;
}

pub slots-first : (m : Setting) → AreSlotsCovered first_ledger (rmap_of (at_first m))
slots-first m = record { kin = λ p page v is. absurd is; rooted = λ s k q names other. absurd names; cached = λ s k f at names. absurd names }

pub merged-first : (m : Setting) → AreMergedCovered first_ledger (rmap_of (at_first m))
merged-first m = record {
  found = λ k f names is. absurd names;
  once = λ f item is. absurd (false≢true is);
  roots = λ f item is. absurd (false≢true is);
  homeless = λ f is. refl;
}

-- an entry that names no other frame than before takes the place of one
pub sound-set : (l l' : Ledger) (r : Rmap) (k : Key) (e : Entry) → l' ≡ set_entry k e l → ((f : ℕ) → names_frame f e ≡ true → Names l k f) →
    IsRmapSound l r → IsRmapSound l' r
sound-set l l' r k e is same h = subst (λ l. IsRmapSound l r) (sym is)
    (sound-fewer l (set_entry k e l) r (λ q f names alone. (
      by q f (same_key q k) refl
          (subst (λ o. IsSomeAnd o (λ e. names_frame f e ≡ true)) (entry-set k e l q) names),
      alone,
    )) h)
  where
    by : (q : Key) (f : ℕ) (b : Bool) → same_key q k ≡ b → IsSomeAnd (cond b (Some e) (entry l q)) (λ e. names_frame f e ≡ true) → Names l q f
    by q f true at names = subst (λ q. Names l q f) (sym (same_key-is q k at)) (same f names)
    by q f false at names = names

-- the same of merged frames
pub merged-set : (l : Ledger) (r : Rmap) (k : Key) (e : Entry) → ((f : ℕ) → names_frame f e ≡ true → is_merged l f ≡ true → Names l k f)
    → AreMergedCovered l r → AreMergedCovered (set_entry k e l) r
merged-set l r k e same =
    merged-fewer l (set_entry k e l) r (λ q f names is. by q f is (same_key q k) refl
    (subst (λ o. IsSomeAnd o (λ e. names_frame f e ≡ true)) (entry-set k e l q) names)) (λ f is. is)
  where
    by : (q : Key) (f : ℕ) → is_merged l f ≡ true → (b : Bool) → same_key q k ≡ b
        → IsSomeAnd (cond b (Some e) (entry l q)) (λ e. names_frame f e ≡ true) → Names l q f
    by q f is true at names = subst (λ q. Names l q f) (sym (same_key-is q k at)) (same f names is)
    by q f is false at names = names

-- the own anon_vma that a home is at
home_some : (page : ℕ) (x : Option Area) → IsSomeAnd x (λ area. IsSome area.anon) → (area : Area) × (v : ℕ) × (x ≡ Some area) × (area.anon ≡ Some v)
home_some page None h = absurd h
home_some page (Some area) h = by area.anon refl h
  where
    by : (own : Option ℕ) → area.anon ≡ own → IsSome own → (a : Area) × (v : ℕ) × (Some area ≡ Some a) × (a.anon ≡ Some v)
    by None e h = absurd (false≢true h)
    by (Some v) e h = (area, v, refl, e)

-- a page gets a frame that no other entry names, and the frame is at home there
pub sound-given : (l l' : Ledger) (r : Rmap) (k : Key) (f : ℕ) → IsSomeAnd (r.areas k.0 k.1) (λ area. IsSome area.anon)
    → ((g : ℕ) → Names l' k g → g ≡ f) → ((q : Key) (g : ℕ) → same_key q k ≡ false → Names l' q g → Names l q g)
    → ((q : Key) → same_key q k ≡ false → Names l' q f → ⊥) → ((q : Key) (g : ℕ) → Names l' q g → is_merged l' g ≡ false → is_merged l g ≡ false)
    → IsRmapSound l r → IsRmapSound l' (at_home f k r)
sound-given l l' r k f owns here others alone own_frame h =
    record { made = h.made; rising = h.rising; own = h.own; covered = λ q g names own. by q g names own (same_key q k) refl }
  where
    area : Area
    area = (home_some k.1 (r.areas k.0 k.1) owns).0

    own : ℕ
    own = (home_some k.1 (r.areas k.0 k.1) owns).1

    is_area : r.areas k.0 k.1 ≡ Some area
    is_area = (home_some k.1 (r.areas k.0 k.1) owns).2

    is_own : area.anon ≡ Some own
    is_own = (home_some k.1 (r.areas k.0 k.1) owns).3

    home_is : home_of k.1 (r.areas k.0 k.1) ≡ Some (own, index_of area k.1)
    home_is = ap (home_of k.1) is_area ∙ ap (option_map (λ v. (v, index_of area k.1))) is_own

    reached : IsReached r k (own, index_of area k.1)
    reached = subst (λ x. IsSomeAnd x (λ a. (is_in own (chain_by r.anons a.anon) ≡ true) × (index_of a k.1 ≡ index_of area k.1))) (sym is_area) (
      subst (λ o. is_in own (chain_by r.anons o) ≡ true) (sym is_own)
          (h.own k.0 k.1 own (subst (λ x. IsSomeAnd x (λ a. a.anon ≡ Some own)) (sym is_area) is_own)),
      refl,
    )

    at_f : (c : Bool) → c ≡ true → IsSomeAnd (cond c (home_of k.1 (r.areas k.0 k.1)) (r.homes f)) (IsReached r k)
    at_f c e = subst (λ c. IsSomeAnd (cond c (home_of k.1 (r.areas k.0 k.1)) (r.homes f)) (IsReached r k)) (sym e)
        (subst (λ o. IsSomeAnd o (IsReached r k)) (sym home_is) reached)

    itself : (n : ℕ) → (n == n) ≡ true
    itself n = grind (arith, nat_tests)

    by : (q : Key) (g : ℕ) → Names l' q g → is_merged l' g ≡ false → (c : Bool) → same_key q k ≡ c
        → IsSomeAnd (with_at f (home_of k.1 (r.areas k.0 k.1)) r.homes g) (IsReached r q)
    by q g names own true is =
        let same : q ≡ k = same_key-is q k is in
        let frame : g ≡ f = here g (subst (λ q. Names l' q g) same names) in
        subst (λ q. IsSomeAnd (with_at f (home_of k.1 (r.areas k.0 k.1)) r.homes g) (IsReached r q)) (sym same)
        (subst (λ g. IsSomeAnd (with_at f (home_of k.1 (r.areas k.0 k.1)) r.homes g) (IsReached r k)) (sym frame) (at_f (f == f) (itself f)))
    by q g names own false is = other (g == f) refl
      where
        other : (c : Bool) → (g == f) ≡ c → IsSomeAnd (cond c (home_of k.1 (r.areas k.0 k.1)) (r.homes g)) (IsReached r q)
        other true e = let same : g ≡ f = grind (arith, nat_tests, e) in absurd (alone q is (subst (Names l' q) same names))
        other false e = h.covered q g (others q g is names) (own_frame q g names own)

-- so does one whose entry alone is put in
pub sound-put : (l l' : Ledger) (r : Rmap) (k : Key) (f : ℕ) (seen : Bool) →
    ((q : Key) → entry l' q ≡ cond (same_key q k) (Some (InFrame f seen)) (entry l q)) → IsSomeAnd (r.areas k.0 k.1) (λ area. IsSome area.anon)
    → ((q : Key) → same_key q k ≡ false → Names l q f → ⊥) → ((q : Key) (g : ℕ) → Names l' q g → is_merged l' g ≡ false → is_merged l g ≡ false)
    → IsRmapSound l r → IsRmapSound l' (at_home f k r)
sound-put l l' r k f seen entries owns alone own_frame h =
    sound-given l l' r k f owns here others (λ q other names. alone q other (others q f other names)) own_frame h
  where
    itself : (b : Bool) → same_key k k ≡ b → (g : ℕ) → IsSomeAnd (cond b (Some (InFrame f seen)) (entry l k)) (λ e. names_frame g e ≡ true) → g ≡ f
    itself true is g names = grind (arith, nat_tests, names)
    itself false is g names = absurd (false≢true (sym is ∙ same_key-itself k))

    here : (g : ℕ) → Names l' k g → g ≡ f
    here g names = itself (same_key k k) refl g (subst (λ o. IsSomeAnd o (λ e. names_frame g e ≡ true)) (entries k) names)

    others : (q : Key) (g : ℕ) → same_key q k ≡ false → Names l' q g → Names l q g
    others q g other names = subst (λ b. IsSomeAnd (cond b (Some (InFrame f seen)) (entry l q)) (λ e. names_frame g e ≡ true)) other
        (subst (λ o. IsSomeAnd o (λ e. names_frame g e ≡ true)) (entries q) names)

-- an area whose page's entry names a frame has an own anon_vma
pub covered-owns : (l : Ledger) (r : Rmap) (k : Key) (f : ℕ) → IsRmapSound l r → AreMergedCovered l r → Names l k f
    → IsSomeAnd (r.areas k.0 k.1) (λ area. IsSome area.anon)
covered-owns l r k f h merged names = which (is_merged l f) refl
  where
    has : (o : Option ℕ) (root : ℕ) → IsSomeAnd o (λ own. root_of r.anons own ≡ root) → IsSome o
    has None root is = absurd is
    has (Some own) root is = refl

    rooted : (home : ℕ × ℕ) (x : Option Area) → IsSomeAnd x (λ area. IsSomeAnd area.anon (λ own. root_of r.anons own ≡ home.0)
        × (index_of area k.1 ≡ home.1)) → IsSomeAnd x (λ area. IsSome area.anon)
    rooted home None is = is
    rooted home (Some area) is = has area.anon home.0 is.0

    at : (home : ℕ × ℕ) (x : Option Area) → IsSomeAnd x (λ area. (is_in home.0 (chain_by r.anons area.anon) ≡ true) × (index_of area k.1 ≡ home.1)) →
        IsSomeAnd x (λ area. IsSome area.anon)
    at home None is = is
    at home (Some area) is = let own = chain_there r.anons area.anon home.0 is.0 in subst IsSome (sym own.1) refl

    by : (o : Option (ℕ × ℕ)) → IsSomeAnd o (IsReached r k) → IsSomeAnd (r.areas k.0 k.1) (λ area. IsSome area.anon)
    by None is = absurd is
    by (Some home) is = at home (r.areas k.0 k.1) is

    which : (b : Bool) → is_merged l f ≡ b → IsSomeAnd (r.areas k.0 k.1) (λ area. IsSome area.anon)
    which true is = let x = merged.found k f names is in rooted x.0 (r.areas k.0 k.1) x.2
    which false is = by (r.homes f) (h.covered k f names is)

-- at most one entry names the frame, and it is this one
pub alone-by : (l : Ledger) (k : Key) (f : ℕ) → T (is_sorted key_cmp l.entries) → map_count l f ≤ 1 → Names l k f → (q : Key) →
    same_key q k ≡ false → Names l q f → ⊥
alone-by l k f sorted few here q other there = by (entry l k) (entry l q) refl refl here there
  where
    by : (x y : Option Entry) → entry l k ≡ x → entry l q ≡ y → IsSomeAnd x (λ e. names_frame f e ≡ true)
        → IsSomeAnd y (λ e. names_frame f e ≡ true) → ⊥
    by None y e g h i = absurd h
    by (Some a) None e g h i = absurd i
    by (Some a) (Some b) e g h i = false≢true (sym other ∙ only_one l f k q a b sorted few e h g i)

-- a frame that no entry is counted for is named by none
pub unnamed-by : (l : Ledger) (f : ℕ) → map_count l f ≡ 0 → (q : Key) → Names l q f → ⊥
unnamed-by l f none q names = by (entry l q) refl names
  where
    by : (x : Option Entry) → entry l q ≡ x → IsSomeAnd x (λ e. names_frame f e ≡ true) → ⊥
    by None e h = absurd h
    by (Some a) e h = let some = how_many-found (names_frame f) q l.entries a e h in omega (arith, none, some)

-- a merged frame that an entry names stays merged where another is settled
pub settled-merged : (g : ℕ) (l : Ledger) (k : Key) (f : ℕ) → Names l k f → is_merged (settle g l) f ≡ is_merged l f
settled-merged g l k f names = by (is_free l g) refl
  where
    left : (b : Bool) → (f == g) ≡ b → (n : ℕ) → n ≡ cond b 0 (how_many (λ x. f == x) l.merged) → is_free l g ≡ true
        → nat_lt 0 n ≡ nat_lt 0 (how_many (λ x. f == x) l.merged)
    left false is n e free = ap (nat_lt 0) e
    left true is n e free = absurd (unnamed-by l f (let z = ap (uses l) (same-is f g is) in let u = free-is l g in
        let n = no_use (uses l g) (sym u ∙ free) in omega (arith, z, n)) k names)
      where
        no_use : (n : ℕ) → (n == 0) ≡ true → n ≡ 0
        no_use n e = grind (arith, nat_tests, e)

    by : (b : Bool) → is_free l g ≡ b → is_merged (cond b (off_lists g l) l) f ≡ is_merged l f
    by true is = any-counts (λ x. f == x) (without g l.merged) ∙ left (f == g) refl _ (count-without g f l.merged) is
        ∙ sym (any-counts (λ x. f == x) l.merged)
    by false is = refl

pub settled_entry-merged : (o : Option Entry) (l : Ledger) (k : Key) (f : ℕ) → Names l k f → is_merged (settle_entry o l) f ≡ is_merged l f
settled_entry-merged None l k f names = refl
settled_entry-merged (Some Zero) l k f names = refl
settled_entry-merged (Some (InSlot s)) l k f names = refl
settled_entry-merged (Some (InFrame g seen)) l k f names = settled-merged g l k f names

-- ---- the areas change

-- a home is at an area's own anon_vma
pub home_parts : (page : ℕ) (x : Option Area) (h : ℕ × ℕ) → home_of page x ≡ Some h
    → IsSomeAnd x (λ area. (area.anon ≡ Some h.0) × (index_of area page ≡ h.1))
home_parts page None h is = cc
home_parts page (Some area) h is = by area.anon refl is
  where
    by : (own : Option ℕ) → area.anon ≡ own → option_map (λ v. (v, index_of area page)) own ≡ Some h
        → (area.anon ≡ Some h.0) × (index_of area page ≡ h.1)
    by None e is = cc
    by (Some v) e is = let both : ◌≡◌ {A = ℕ × ℕ} (v, index_of area page) h = cc in
        (e ∙ ap (λ (x : ℕ × ℕ). Some x.0) both, ap (λ (x : ℕ × ℕ). x.1) both)

-- what areas need of the anon_vmas that are left once they are others: none changes that is there, and none that an area is linked to
pub record AnonsStay (anons : Anons) (on : Areas) (left : Anons) : Type 0 where
  pub next : left.next ≡ anons.next
  pub same : (v : ℕ) → IsSome (left.anon v) → left.anon v ≡ anons.anon v
  pub linked : (v : ℕ) → IsLinked anons on v → left.anon v ≡ anons.anon v

pub stay-left : (anons : Anons) (on : Areas) (left : Anons) → AreLeft anons on left → AnonsStay anons on left
stay-left anons on left h = record {
  next = h.next;
  same = λ v there. h.linked v (h.there v there);
  linked = h.linked;
}

-- an entry that names the frame came from a page that named it, and whose home the entry's page has now
pub record Carries (l : Ledger) (r next : Rmap) (k : Key) (f : ℕ) : Type 0 where
  pub was : Key
  pub names : Names l was f
  pub home : (h : ℕ × ℕ) → home_of was.1 (r.areas was.0 was.1) ≡ Some h → home_of k.1 (next.areas k.0 k.1) ≡ Some h

-- the areas become others: each entry that names a frame carries its page's home with it, no area
-- has an own anon_vma that none had, and of the anon_vmas is
-- left what is linked
pub sound-carried : (l l' : Ledger) (r next : Rmap) → ((k : Key) (f : ℕ) → Names l' k f → Carries l r next k f)
    → ((p page v : ℕ) → Owns next p page v → (q : ℕ) × (other : ℕ) × Owns r q other v)
    → ((k : Key) (f : ℕ) → Names l' k f → is_merged l' f ≡ false → is_merged l f ≡ false)
    → AnonsStay r.anons next.areas next.anons → next.homes ≡ r.homes → IsRmapSound l r → IsRmapSound l' next
sound-carried l l' r next carries owns own_frame left homes h = record {
  made = λ v there. subst (λ n. v < n) (sym left.next) (h.made v (subst IsSome (left.same v there) there));
  rising = rise-left r.anons next.anons left.next left.same h.rising;
  own = λ p page v is. subst (λ c. is_in v c ≡ true) (sym (same_chain p page v is)) (in_chain p page v is);
  covered = λ k f names own.
      let c = carries k f names in
      subst (λ (hs : ℕ → Option (ℕ × ℕ)). IsSomeAnd (hs f) (IsReached next k)) (sym homes)
      (reached k f c (r.homes f) (h.covered c.was f c.names (own_frame k f names own)));
}
  where
    in_chain : (p page v : ℕ) → Owns next p page v → is_in v (chain_by r.anons (Some v)) ≡ true
    in_chain p page v is = let was = owns p page v is in h.own was.0 was.1 v was.2

    linked : (p page v : ℕ) (x : Option Area) → IsSomeAnd x (λ area. area.anon ≡ Some v) → is_in v (chain_by r.anons (Some v)) ≡ true →
        IsSomeAnd x (λ area. is_in v (chain_by r.anons area.anon) ≡ true)
    linked p page v None is in_own = is
    linked p page v (Some area) is in_own = subst (λ o. is_in v (chain_by r.anons o) ≡ true) (sym is) in_own

    same_chain : (p page v : ℕ) → Owns next p page v → chain_by next.anons (Some v) ≡ chain_by r.anons (Some v)
    same_chain p page v is = ap (λ o. option_map_or (λ (x : AnonVma). x.chain) o [])
        (left.linked v (p, page, linked p page v (next.areas p page) is (in_chain p page v is)))

    -- where an area had a home the entry's page has it now
    still_reached : (k was : Key) (home : ℕ × ℕ) (x y : Option Area) → next.areas k.0 k.1 ≡ y
        → IsSomeAnd x (λ area. (is_in home.0 (chain_by r.anons area.anon) ≡ true) × (index_of area was.1 ≡ home.1))
        → ((h : ℕ × ℕ) → home_of was.1 x ≡ Some h → home_of k.1 y ≡ Some h)
        → IsSomeAnd y (λ area. (is_in home.0 (chain_by next.anons area.anon) ≡ true) × (index_of area k.1 ≡ home.1))
    still_reached k was home None y e is keeps = absurd is
    still_reached k was home (Some area) y e is keeps =
        let own = chain_there r.anons area.anon home.0 is.0 in
        let had : home_of was.1 (Some area) ≡ Some (own.0, index_of area was.1) = ap (option_map (λ v. (v, index_of area was.1))) own.1 in
        let now = home_parts k.1 y (own.0, index_of area was.1) (keeps (own.0, index_of area was.1) had) in
        there own.0 y e now (subst (λ o. is_in home.0 (chain_by r.anons o) ≡ true) own.1 is.0)
      where
        there : (v : ℕ) (y : Option Area) → next.areas k.0 k.1 ≡ y → IsSomeAnd y (λ a. (a.anon ≡ Some v) × (index_of a k.1 ≡ index_of area was.1))
            → is_in home.0 (chain_by r.anons (Some v)) ≡ true
            → IsSomeAnd y (λ a. (is_in home.0 (chain_by next.anons a.anon) ≡ true) × (index_of a k.1 ≡ home.1))
        there v None e is in_own = is
        there v (Some a) e now in_own = (
          subst (λ o. is_in home.0 (chain_by next.anons o) ≡ true) (sym now.0)
              (subst (λ c. is_in home.0 c ≡ true)
              (sym (same_chain k.0 k.1 v (subst (λ x. IsSomeAnd x (λ a. a.anon ≡ Some v)) (sym e) now.0))) in_own),
          now.1 ∙ is.1,
        )

    reached : (k : Key) (f : ℕ) (c : Carries l r next k f) (o : Option (ℕ × ℕ)) → IsSomeAnd o (IsReached r c.was) → IsSomeAnd o (IsReached next k)
    reached k f c None is = is
    reached k f c (Some home) is = still_reached k c.was home (r.areas c.was.0 c.was.1) (next.areas k.0 k.1) refl is c.home

-- so it is where entries stay at their pages, and these keep their homes
pub sound-next : (l l' : Ledger) (r next : Rmap) → ((k : Key) (f : ℕ) → Names l' k f → Names l k f)
    → ((k : Key) (f : ℕ) (h : ℕ × ℕ) → Names l' k f → home_of k.1 (r.areas k.0 k.1) ≡ Some h → home_of k.1 (next.areas k.0 k.1) ≡ Some h)
    → ((p page v : ℕ) → Owns next p page v → (q : ℕ) × (other : ℕ) × Owns r q other v)
    → ((k : Key) (f : ℕ) → Names l' k f → is_merged l' f ≡ false → is_merged l f ≡ false)
    → AnonsStay r.anons next.areas next.anons → next.homes ≡ r.homes → IsRmapSound l r → IsRmapSound l' next
sound-next l l' r next fewer kept = sound-carried l l' r next
    (λ k f names. record { was = k; names = fewer k f names; home = λ h. kept k f h names })

-- ---- an area is prepared

-- what a neighbour lends is its own
lent_own : (len : Lengths) (area : Area) (x : Option Area) (w : ℕ) → loan_of len area x ≡ Some w → IsSomeAnd x (λ near. near.anon ≡ Some w)
lent_own len area None w is = cc
lent_own len area (Some near) w is = by (can_lend area near (len near.anon)) is
  where
    by : (b : Bool) → cond b near.anon None ≡ Some w → near.anon ≡ Some w
    by true e = e
    by false e = cc

pub lent_beside : (len : Lengths) (on : Pages) (area : Area) (w : ℕ) → loan_beside len on area ≡ Some w →
    (page : ℕ) × IsSomeAnd (on page) (λ near. near.anon ≡ Some w)
lent_beside len on area w is = by (loan_of len area (on (past_of area))) (loan_of len area (on (first_of area - 1))) refl refl is
  where
    by : (x y : Option ℕ) → loan_of len area (on (past_of area)) ≡ x → loan_of len area (on (first_of area - 1)) ≡ y → option_or x y ≡ Some w →
        (page : ℕ) × IsSomeAnd (on page) (λ near. near.anon ≡ Some w)
    by (Some v) y e f is = (past_of area, lent_own len area (on (past_of area)) w (e ∙ is))
    by None y e f is = (first_of area - 1, lent_own len area (on (first_of area - 1)) w (f ∙ is))

-- an area with an own anon_vma stays as it is
pub prepared-stays : (len : Lengths) (next page : ℕ) (on : Pages) (at : ℕ) (a : Area) → AreLaid on → on at ≡ Some a → IsSome a.anon →
    after_prepare len next page on at ≡ Some a
prepared-stays len next page on at a laid is own = by (on page) refl
  where
    by : (o : Option Area) → on page ≡ o → with_anon len next o on at ≡ Some a
    by None e = is
    by (Some b) e = bare (is_some b.anon) refl
      where
        over : (has : Bool) → has_page b at ≡ has → is_some b.anon ≡ false →
            cond has (Some (record b { anon = Some (unwrap_or (loan_beside len on b) next) })) (on at) ≡ Some a
        over true h none = let same : Some a ≡ Some b = sym is ∙ laid.all page at b e h in
            absurd (false≢true (sym none ∙ subst (λ (o : Option Area). option_map_or (λ (x : Area). is_some x.anon) o true ≡ true) same own))
        over false h none = is

        bare : (c : Bool) → is_some b.anon ≡ c
            → cond c on (with_area (record b { anon = Some (unwrap_or (loan_beside len on b) next) }) on) at ≡ Some a
        bare true h = is
        bare false h = over (has_page b at) refl h

-- the area of the page has one then
pub prepared-own : (len : Lengths) (next page : ℕ) (on : Pages) → AreLaid on → IsSome (on page) →
    IsSomeAnd (after_prepare len next page on page) (λ a. IsSome a.anon)
prepared-own len next page on laid there = by (on page) refl there
  where
    by : (o : Option Area) → on page ≡ o → IsSome o → IsSomeAnd (with_anon len next o on page) (λ a. IsSome a.anon)
    by None e there = absurd (false≢true there)
    by (Some b) e there = bare (is_some b.anon) refl
      where
        over : (has : Bool) → has ≡ true → IsSomeAnd (cond has (Some (record b { anon = Some (unwrap_or (loan_beside len on b) next) })) (on page))
            (λ a. IsSome a.anon)
        over true h = refl
        over false h = absurd (false≢true h)

        bare : (c : Bool) → is_some b.anon ≡ c
            → IsSomeAnd (cond c on (with_area (record b { anon = Some (unwrap_or (loan_beside len on b) next) }) on) page)
            (λ a. IsSome a.anon)
        bare true h = subst (λ o. IsSomeAnd o (λ a. IsSome a.anon)) (sym e) h
        bare false h = over (has_page b page) (laid.here page b e)

-- the area at a page had this own anon_vma, or the area that is prepared had none and got it
abbrev pub HadOrGot : Lengths → ℕ → ℕ → Pages → ℕ → ℕ → Type 0
HadOrGot len next page on at v = IsSomeAnd (on at) (λ a. a.anon ≡ Some v)
    ⊎ ((b : Area) × (on page ≡ Some b) × (is_some b.anon ≡ false) × (v ≡ unwrap_or (loan_beside len on b) next))

pub prepared-owns : (len : Lengths) (next page : ℕ) (on : Pages) (at v : ℕ) → IsSomeAnd (after_prepare len next page on at) (λ a. a.anon ≡ Some v)
    → HadOrGot len next page on at v
prepared-owns len next page on at v is = by (on page) refl is
  where
    by : (o : Option Area) → on page ≡ o → IsSomeAnd (with_anon len next o on at) (λ a. a.anon ≡ Some v)
        → HadOrGot len next page on at v
    by None e is = inl is
    by (Some b) e is = bare (is_some b.anon) refl is
      where
        over : (has : Bool) → is_some b.anon ≡ false
            → IsSomeAnd (cond has (Some (record b { anon = Some (unwrap_or (loan_beside len on b) next) })) (on at))
            (λ a. a.anon ≡ Some v)
            → HadOrGot len next page on at v
        over true none is = let same : v ≡ unwrap_or (loan_beside len on b) next = cc in inr (b, e, none, same)
        over false none is = inl is

        bare : (c : Bool) → is_some b.anon ≡ c
            → IsSomeAnd (cond c on (with_area (record b { anon = Some (unwrap_or (loan_beside len on b) next) }) on) at)
            (λ a. a.anon ≡ Some v)
            → HadOrGot len next page on at v
        bare true h is = inl is
        bare false h is = over (has_page b at) h is

module _ (l : Ledger) (p page : ℕ) (r : Rmap) (laid : AreLaid (r.areas p)) (h : IsRmapSound l r) where
  abbrev len : Lengths
  len = chain_length r.anons

  abbrev on : Pages
  on = r.areas p

  -- whether a root is made
  abbrev roots : Bool
  roots = makes_anon len on (on page)

  abbrev now_anons : Anons
  now_anons = cond roots (with_root r.anons) r.anons

  pub same_chain : (own : Option ℕ) (v : ℕ) → is_in v (chain_by r.anons own) ≡ true → chain_by now_anons own ≡ chain_by r.anons own
  same_chain own v is = chain_rooted r.anons roots own v h.made is

  made_now : (b : Bool) (v : ℕ) → IsSome ((cond b (with_root r.anons) r.anons).anon v) → v < (cond b (with_root r.anons) r.anons).next
  made_now false v is = h.made v is
  made_now true v is = root (v == r.anons.next) refl is
    where
      root : (c : Bool) → (v == r.anons.next) ≡ c
          → IsSome (cond c (Some (record { root = r.anons.next; parent = r.anons.next; chain = r.anons.next ∷ [] }))
          (r.anons.anon v)) → v < suc r.anons.next
      root true e is = let same : v ≡ r.anons.next = grind (arith, nat_tests, e) in omega (arith, same)
      root false e is = let less = h.made v is in omega (arith, less)

  -- an own anon_vma that was there
  own_before : (q other v : ℕ) → Owns r q other v → is_in v (chain_by now_anons (Some v)) ≡ true
  own_before q other v is = let was = h.own q other v is in subst (λ c. is_in v c ≡ true) (sym (same_chain (Some v) v was)) was

  -- and the one that the area gets
  own_got : (b : Area) → on page ≡ Some b → is_some b.anon ≡ false →
      is_in (unwrap_or (loan_beside len on b) r.anons.next) (chain_by now_anons (Some (unwrap_or (loan_beside len on b) r.anons.next))) ≡ true
  own_got b is none = by (loan_beside len on b) refl
    where
      itself : (n : ℕ) → (n == n) ≡ true
      itself n = grind (arith, nat_tests)

      makes : (o : Option ℕ) → loan_beside len on b ≡ o → roots ≡ not (is_some o)
      makes o e = ap (makes_anon len on) is ∙ ap (λ x. not x && not (is_some (loan_beside len on b))) none ∙ ap (λ o. not (is_some o)) e

      root : (c : Bool) → c ≡ true → option_map_or (λ (x : AnonVma). x.chain)
          (cond c (Some (record { root = r.anons.next; parent = r.anons.next; chain = r.anons.next ∷ [] })) (r.anons.anon r.anons.next))
          [] ≡ r.anons.next ∷ []
      root true e = refl
      root false e = cc

      by : (o : Option ℕ) → loan_beside len on b ≡ o → is_in (unwrap_or o r.anons.next) (chain_by now_anons (Some (unwrap_or o r.anons.next))) ≡ true
      by (Some w) e = let near = lent_beside len on b w e in own_before p near.0 w near.1
      by None e = subst (λ m. is_in r.anons.next (chain_by (cond m (with_root r.anons) r.anons) (Some r.anons.next)) ≡ true) (sym (makes None e))
          (subst (λ c. is_in r.anons.next c ≡ true) (sym (root (r.anons.next == r.anons.next) (itself r.anons.next)))
          (ap (λ b. b || false) (itself r.anons.next)))

  -- the areas then
  abbrev now_areas : ℕ → Pages
  now_areas = with_at p (after_prepare len r.anons.next page on) r.areas

  pub stays : (q other : ℕ) (a : Area) → r.areas q other ≡ Some a → IsSome a.anon → now_areas q other ≡ Some a
  stays q other a is own = by (q == p) refl
    where
      by : (b : Bool) → (q == p) ≡ b → (cond b (after_prepare len r.anons.next page on) (r.areas q)) other ≡ Some a
      by true e = let same : q ≡ p = grind (arith, nat_tests, e) in
          prepared-stays len r.anons.next page on other a laid (subst (λ q. r.areas q other ≡ Some a) same is) own
      by false e = is

  own_now : (q other v : ℕ) → IsSomeAnd (now_areas q other) (λ a. a.anon ≡ Some v) → is_in v (chain_by now_anons (Some v)) ≡ true
  own_now q other v = by (q == p)
    where
      got : HadOrGot len r.anons.next page on other v → is_in v (chain_by now_anons (Some v)) ≡ true
      got (inl is) = own_before p other v is
      got (inr (b, is, none, e)) = subst (λ v. is_in v (chain_by now_anons (Some v)) ≡ true) (sym e) (own_got b is none)

      by : (b : Bool) → IsSomeAnd ((cond b (after_prepare len r.anons.next page on) (r.areas q)) other) (λ a. a.anon ≡ Some v) →
          is_in v (chain_by now_anons (Some v)) ≡ true
      by true is = got (prepared-owns len r.anons.next page on other v is)
      by false is = own_before q other v is

  pub reached_now : (k : Key) (home : ℕ × ℕ) (x : Option Area) → r.areas k.0 k.1 ≡ x →
      IsSomeAnd x (λ a. (is_in home.0 (chain_by r.anons a.anon) ≡ true) × (index_of a k.1 ≡ home.1))
      → IsSomeAnd (now_areas k.0 k.1) (λ a. (is_in home.0 (chain_by now_anons a.anon) ≡ true) × (index_of a k.1 ≡ home.1))
  reached_now k home None e is = absurd is
  reached_now k home (Some a) e is =
      let own = chain_there r.anons a.anon home.0 is.0 in
      subst (λ x. IsSomeAnd x (λ a. (is_in home.0 (chain_by now_anons a.anon) ≡ true) × (index_of a k.1 ≡ home.1)))
      (sym (stays k.0 k.1 a e (subst IsSome (sym own.1) refl)))
      (subst (λ c. is_in home.0 c ≡ true) (sym (same_chain a.anon home.0 is.0)) is.0, is.1)

  -- the page's area has an own anon_vma then
  pub owns-prepared : IsSome (r.areas p page) → IsSomeAnd (now_areas p page) (λ a. IsSome a.anon)
  owns-prepared there = by (p == p) (grind (arith, nat_tests))
    where
      by : (b : Bool) → b ≡ true → IsSomeAnd ((cond b (after_prepare len r.anons.next page on) (r.areas p)) page) (λ a. IsSome a.anon)
      by true e = prepared-own len r.anons.next page on laid there
      by false e = absurd (false≢true e)

  -- an area is prepared
  pub sound-prepared : IsRmapSound l (prepare_page p page r)
  sound-prepared = record {
    made = made_now roots;
    rising = rise-rooted roots r.anons h.rising;
    own = own_now;
    covered = λ k f names own. reached k (r.homes f) (h.covered k f names own);
  }
    where
      reached : (k : Key) (o : Option (ℕ × ℕ)) → IsSomeAnd o (IsReached r k) → IsSomeAnd o (IsReached (prepare_page p page r) k)
      reached k None is = is
      reached k (Some home) is = reached_now k home (r.areas k.0 k.1) refl is

  -- ---- and its slots

  not_next : (v : ℕ) → IsSome (r.anons.anon v) → (v == r.anons.next) ≡ false
  not_next v there = let less = h.made v there in grind (arith, nat_tests, less)

  -- an anon_vma that is there stays
  anon_now : (v : ℕ) → IsSome (r.anons.anon v) → now_anons.anon v ≡ r.anons.anon v
  anon_now v there = by roots
    where
      by : (b : Bool) → (cond b (with_root r.anons) r.anons).anon v ≡ r.anons.anon v
      by false = refl
      by true = ap (λ c. cond c (Some (record { root = r.anons.next; parent = r.anons.next; chain = r.anons.next ∷ [] })) (r.anons.anon v))
          (not_next v there)

  some_of : {A : Type 0} (P : A → Type 0) (o : Option A) → IsSomeAnd o P → IsSome o
  some_of P None is = absurd is
  some_of P (Some x) is = refl

  member_now : (u root : ℕ) → IsSomeAnd (r.anons.anon u) (λ other. other.root ≡ root) → IsSomeAnd (now_anons.anon u) (λ other. other.root ≡ root)
  member_now u root is = subst (λ x. IsSomeAnd x (λ (other : AnonVma). other.root ≡ root))
      (sym (anon_now u (some_of (λ (other : AnonVma). other.root ≡ root) (r.anons.anon u) is))) is

  kin_now : (v : ℕ) → IsSomeAnd (r.anons.anon v) (IsKin r.anons) → IsSomeAnd (now_anons.anon v) (IsKin now_anons)
  kin_now v is = subst (λ x. IsSomeAnd x (IsKin now_anons)) (sym (anon_now v (some_of (IsKin r.anons) (r.anons.anon v) is))) (by (r.anons.anon v) is)
    where
      by : (o : Option AnonVma) → IsSomeAnd o (IsKin r.anons) → IsSomeAnd o (IsKin now_anons)
      by None kin = kin
      by (Some a) kin = record { root = kin.root; members = λ u among. member_now u a.root (kin.members u among) }

  -- a root is its own kin
  root_kin : roots ≡ true → IsSomeAnd (now_anons.anon r.anons.next) (IsKin now_anons)
  root_kin made = subst
      (λ b. IsSomeAnd ((cond b (with_root r.anons) r.anons).anon r.anons.next) (IsKin (cond b (with_root r.anons) r.anons))) (sym made)
      (by (r.anons.next == r.anons.next) itself)
    where
      one : AnonVma
      one = record { root = r.anons.next; parent = r.anons.next; chain = r.anons.next ∷ [] }

      itself : (r.anons.next == r.anons.next) ≡ true
      itself = grind (arith, nat_tests)

      member : (u : ℕ) (b : Bool) → (u == r.anons.next) ≡ b → (b || false) ≡ true →
          IsSomeAnd (cond (u == r.anons.next) (Some (record { root = r.anons.next; parent = r.anons.next; chain = r.anons.next ∷ [] }))
          (r.anons.anon u))
          (λ (other : AnonVma). other.root ≡ r.anons.next)
      member u true e among = subst (λ c. IsSomeAnd (cond c (Some (record { root = r.anons.next; parent = r.anons.next; chain = r.anons.next ∷ [] }))
          (r.anons.anon u)) (λ (other : AnonVma). other.root ≡ r.anons.next)) (sym e) refl
      member u false e among = absurd (false≢true among)

      by : (c : Bool) → c ≡ true →
          IsSomeAnd (cond c (Some (record { root = r.anons.next; parent = r.anons.next; chain = r.anons.next ∷ [] })) (r.anons.anon r.anons.next))
          (IsKin (with_root r.anons))
      by true e = record { root = ap (λ b. b || false) itself; members = λ u among. member u (u == r.anons.next) refl among }
      by false e = absurd (false≢true e)

  kin_got : AreSlotsCovered l r → (q other v : ℕ) → IsSomeAnd (now_areas q other) (λ a. a.anon ≡ Some v)
      → IsSomeAnd (now_anons.anon v) (IsKin now_anons)
  kin_got slots q other v = by (q == p)
    where
      makes : (b : Area) → on page ≡ Some b → is_some b.anon ≡ false → (o : Option ℕ) → loan_beside len on b ≡ o → roots ≡ not (is_some o)
      makes b is none o e = ap (makes_anon len on) is ∙ ap (λ x. not x && not (is_some (loan_beside len on b))) none ∙ ap (λ o. not (is_some o)) e

      lent : (b : Area) → on page ≡ Some b → is_some b.anon ≡ false → (o : Option ℕ) → loan_beside len on b ≡ o →
          IsSomeAnd (now_anons.anon (unwrap_or o r.anons.next)) (IsKin now_anons)
      lent b is none (Some w) e = let near = lent_beside len on b w e in kin_now w (slots.kin p near.0 w near.1)
      lent b is none None e = root_kin (makes b is none None e)

      got : HadOrGot len r.anons.next page on other v → IsSomeAnd (now_anons.anon v) (IsKin now_anons)
      got (inl is) = kin_now v (slots.kin p other v is)
      got (inr (b, is, none, e)) = subst (λ v. IsSomeAnd (now_anons.anon v) (IsKin now_anons)) (sym e) (lent b is none (loan_beside len on b) refl)

      by : (b : Bool) → IsSomeAnd ((cond b (after_prepare len r.anons.next page on) (r.areas q)) other) (λ a. a.anon ≡ Some v) →
          IsSomeAnd (now_anons.anon v) (IsKin now_anons)
      by true is = got (prepared-owns len r.anons.next page on other v is)
      by false is = kin_now v (slots.kin q other v is)

  pub rooted_now : AreSlotsCovered l r → (k : Key) (home : ℕ × ℕ) → IsRooted r k home → IsRooted (prepare_page p page r) k home
  rooted_now slots k home is = at (r.areas k.0 k.1) refl is
    where
      root_now : (own : ℕ) → IsSome (r.anons.anon own) → root_of now_anons own ≡ root_of r.anons own
      root_now own there = ap (λ x. option_map_or (λ (a : AnonVma). a.root) x own) (anon_now own there)

      of_area : (a : Area) → r.areas k.0 k.1 ≡ Some a → (o : Option ℕ) → a.anon ≡ o → IsSomeAnd o (λ own. root_of r.anons own ≡ home.0) →
          index_of a k.1 ≡ home.1 → IsRooted (prepare_page p page r) k home
      of_area a e None f is same = absurd is
      of_area a e (Some own) f is same =
          let there = some_of (IsKin r.anons) (r.anons.anon own)
          (slots.kin k.0 k.1 own (subst (λ x. IsSomeAnd x (λ a. a.anon ≡ Some own)) (sym e) f)) in
          subst (λ x. IsSomeAnd x (λ a. IsSomeAnd a.anon (λ own. root_of now_anons own ≡ home.0) × (index_of a k.1 ≡ home.1)))
          (sym (stays k.0 k.1 a e (subst IsSome (sym f) refl)))
          (subst (λ x. IsSomeAnd x (λ own. root_of now_anons own ≡ home.0)) (sym f) (root_now own there ∙ is), same)

      at : (o : Option Area) → r.areas k.0 k.1 ≡ o
          → IsSomeAnd o (λ a. IsSomeAnd a.anon (λ own. root_of r.anons own ≡ home.0) × (index_of a k.1 ≡ home.1))
          → IsRooted (prepare_page p page r) k home
      at None e is = absurd is
      at (Some a) e is = of_area a e a.anon refl is.0 is.1

  -- an area is prepared
  pub slots-prepared : AreSlotsCovered l r → AreSlotsCovered l (prepare_page p page r)
  slots-prepared slots = record {
    kin = kin_got slots;
    rooted = λ s k q names other. let home = slots.rooted s k q names other in
        (home.0, rooted_now slots k home.0 home.1, rooted_now slots q home.0 home.2);
    cached = λ s k f at names. reached k (r.homes f) (slots.cached s k f at names);
  }
    where
      reached : (k : Key) (o : Option (ℕ × ℕ)) → IsSomeAnd o (IsReached r k) → IsSomeAnd o (IsReached (prepare_page p page r) k)
      reached k None is = is
      reached k (Some home) is = reached_now k home (r.areas k.0 k.1) refl is

  -- an anon_vma that was made before is there only as it was
  before_now : (v : ℕ) (P : AnonVma → Type 0) → v < r.anons.next → IfSome (r.anons.anon v) P → IfSome (now_anons.anon v) P
  before_now v P less is = by roots
    where
      other : (v == r.anons.next) ≡ false
      other = grind (arith, nat_tests, less)

      by : (b : Bool) → IfSome ((cond b (with_root r.anons) r.anons).anon v) P
      by false = is
      by true = subst (λ c. IfSome (cond c (Some (record { root = r.anons.next; parent = r.anons.next; chain = r.anons.next ∷ [] })) (r.anons.anon v)) P)
          (sym other) is

  -- the number that is next doesn't fall
  next_now : (v : ℕ) → v < r.anons.next → v < now_anons.next
  next_now v less = by roots
    where
      by : (b : Bool) → v < (cond b (with_root r.anons) r.anons).next
      by false = less
      by true = omega (arith, less)

  -- an area is prepared
  pub merged-prepared : AreSlotsCovered l r → AreMergedCovered l r → AreMergedCovered l (prepare_page p page r)
  merged-prepared slots merged = record {
    found = λ k f names is. let x = merged.found k f names is in (x.0, x.1, rooted_now slots k x.0 x.2);
    once = merged.once;
    roots = λ f item is among. let x = merged.roots f item is among in
        (next_now item.0 x.0, before_now item.0 (λ v. v.root ≡ item.0) x.0 x.1);
    homeless = merged.homeless;
  }
