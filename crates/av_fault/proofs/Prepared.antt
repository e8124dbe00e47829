-- An area prepares its anon_vma: the kernel's areas and anon_vmas are those that the definitions prepare, and what stood before stands.
use Rattle.std.proofs.Common.{◌≡◌, ◌≢◌, ℕ, ◌-◌, suc, Bool, true, false, cond, not, ◌&&◌, ◌==◌, List, [], ◌∷◌, Option, Some, None, is_some, option_map, IfSome, IsSome, IsSomeAnd, refl, sym, ap, subst, ◌∙◌, arith}
use Rattle.std.proofs.lemmas.Bool.Decides.{nat_tests}
use Rattle.std.specs.Option.{option_map_or, option_or}
use Rattle.std.specs.Prelude.{unwrap_or}
use Rattle.av_base.specs.Words.{is_in}
use Rattle.av_anon.specs.declared.anons.Anons.{Anons as AnonSet}
use Rattle.av_anon.specs.declared.infos.Info.{Info}
use Rattle.av_merge.specs.Kin.{kin_in, lengths}
use Rattle.av_merge.proofs.Lengths.{AreAlike}
use Rattle.av_pagetable.specs.Entries.{has}
use Rattle.av_spaces.specs.Kin as in_spaces
use Rattle.av_spaces.specs.Kin.{AnonsPrepare, IsOwnedIn, info_of, made_for}
use Rattle.av_spaces.specs.Spaces.{AllSpaces, AreThese, IsChanged, areas_of, pages_of as areas_on}
use Rattle.av_spaces.proofs.Kin.{stay_same}
use Rattle.av_spaces.proofs.Rising.{laid}
use Rattle.av_vma.specs.Index.{first_of, past_of}
use Rattle.av_vma.specs.Join.{can_lend}
use Rattle.av_vma.specs.Pages.{AreLaid, Lengths, Pages, after_prepare, has_page, loan_beside, loan_of, makes_anon, pages_in, with_anon, with_area}
use Rattle.av_vma.specs.declared.area.Area.{Area}
use Rattle.av_plain.specs.Areas.{AnonVma, Anons, Rmap, chain_by, chain_length, prepare_page, with_root}
use Rattle.av_plain.specs.Device.{Device}
use Rattle.av_plain.specs.Ledger.{Ledger}
use Rattle.av_plain.specs.Stands.{AnonsStand, kin_of}
use Rattle.av_plain.specs.Transcript.{State, rmap_of}
use Rattle.av_plain.specs.World.{World}
use Rattle.av_plain.proofs.Covered.{owns-prepared}
use Rattle.av_swap_laws.specs.Held.{IsHeld}
use Rattle.av_swap_laws.proofs.Between.{prepared-held}
use Rattle.av_mem.specs.declared.mem.Mem.{Mem}
use Rattle.av_mem.specs.Mem.{Keeps, anon_vma, anons_of, held_by, setting_by, view}
use Rattle.av_mem.proofs.AnonLaws.{area_chain, lengths_alike, shown_chain}
use Rattle.av_mem.proofs.KeepsLaws.{serves-keeps, state_by}
use Rattle.av_mem.proofs.MemLaws.{alive_is, all_apart, prot_on, prots_are}
use Rattle.av_mem.specs.Between.{KeepsBetween}

-- ---- by lengths that are alike

lent_alike : (len len' : Lengths) (on : Pages) (area : Area) (page : ℕ) → AreAlike len len' on
    → loan_of len area (on page) ≡ loan_of len' area (on page)
lent_alike len len' on area page h = by (on page) refl
  where
    by : (o : Option Area) → on page ≡ o → loan_of len area o ≡ loan_of len' area o
    by None e = refl
    by (Some near) e = let same = h.same page near e in λ i. cond (can_lend area near (same i)) near.anon None

near_alike : (len len' : Lengths) (on : Pages) (area : Area) → AreAlike len len' on → loan_beside len on area ≡ loan_beside len' on area
near_alike len len' on area h =
    let after = lent_alike len len' on area (past_of area) h in
    let before = lent_alike len len' on area (first_of area - 1) h in
    λ i. option_or (after i) (before i)

pub prepare_alike : (len len' : Lengths) (next page : ℕ) (on : Pages) → AreAlike len len' on → (q : ℕ) →
    after_prepare len next page on q ≡ after_prepare len' next page on q
prepare_alike len len' next page on h q = by (on page)
  where
    by : (o : Option Area) → with_anon len next o on q ≡ with_anon len' next o on q
    by None = refl
    by (Some area) = ap (λ loan_of. with_lent area loan_of q) (near_alike len len' on area h)
      where
        with_lent : Area → Option ℕ → Pages
        with_lent area loan_of = cond (is_some area.anon) on (with_area (record area { anon = Some (unwrap_or loan_of next) }) on)

pub makes_alike : (len len' : Lengths) (on : Pages) (o : Option Area) → AreAlike len len' on → makes_anon len on o ≡ makes_anon len' on o
makes_alike len len' on None h = refl
makes_alike len len' on (Some area) h = ap (λ loan_of. not (is_some area.anon) && not (is_some loan_of)) (near_alike len len' on area h)

-- ---- the kernel's, and those of the definitions

itself : (n : ℕ) → (n == n) ≡ true
itself n = grind (arith, nat_tests)

number_is : (q p : ℕ) → (q == p) ≡ true → q ≡ p
number_is q p e = grind (arith, nat_tests)

other_is : (q p : ℕ) → (q == p) ≡ false → q ≢ p
other_is q p e = grind (arith, nat_tests)

module _ (d : Device) (old : Mem) (s : State) (keeps : Keeps d old s) (spaces : AllSpaces) (now : AnonSet) (p page : ℕ)
    (changed : IsChanged old.spaces.processes spaces.processes p (AreThese
    (after_prepare (lengths old.spaces.areas old.anons) old.anons.next page (areas_on old.spaces.processes p))))
    (made : AnonsPrepare old.spaces old.anons spaces now p page) where
  abbrev on : Pages
  on = areas_on old.spaces.processes p

  alike : AreAlike (lengths old.spaces.areas old.anons) (chain_length s.anons) on
  alike = lengths_alike d old s keeps old.spaces old.anons (stay_same old.spaces old.anons keeps.anons) p

  same_on : on ≡ s.areas p
  same_on = λ i o. keeps.stands.areas p o i

  next_is : old.anons.next ≡ s.anons.next
  next_is = keeps.stands.anons.next

  -- the areas on the pages
  own_pages : (o : ℕ) → areas_on spaces.processes p o ≡ after_prepare (chain_length s.anons) s.anons.next page (s.areas p) o
  own_pages o = changed.pages o ∙ prepare_alike (lengths old.spaces.areas old.anons) (chain_length s.anons) old.anons.next page on alike o
      ∙ (λ i. after_prepare (chain_length s.anons) (next_is i) page (same_on i) o)

  pub areas_prepared : (q o : ℕ) → areas_on spaces.processes q o ≡ (prepare_page p page (rmap_of s)).areas q o
  areas_prepared q o = by (q == p) refl
    where
      by : (b : Bool) → (q == p) ≡ b → areas_on spaces.processes q o
          ≡ (cond b (after_prepare (chain_length s.anons) s.anons.next page (s.areas p)) (s.areas q)) o
      by true e = ap (λ n. areas_on spaces.processes n o) (number_is q p e) ∙ own_pages o
      by false e = ap (λ a. pages_in a o) (changed.others q (other_is q p e)) ∙ keeps.stands.areas q o

  -- whether an anon_vma is made
  made_is : made_for old.spaces old.anons p page ≡ makes_anon (chain_length s.anons) (s.areas p) (s.areas p page)
  made_is = makes_alike (lengths old.spaces.areas old.anons) (chain_length s.anons) on (on page) alike
      ∙ (λ i. makes_anon (chain_length s.anons) (same_on i) (same_on i page))

  -- ---- the anon_vmas

  owned_at : (v : ℕ) (q o : ℕ) (A : Area) → areas_on spaces.processes q o ≡ Some A → A.anon ≡ Some v → IsOwnedIn spaces v
  owned_at v q o A is own = (q, o, subst (λ x. IsSomeAnd x (λ area. area.anon ≡ Some v)) (sym is) own)

  there_now : (v : ℕ) → IsOwnedIn spaces v → IsSome (info_of now v)
  there_now v h = made.fit.linked v (h.0, h.1, with_chain (areas_on spaces.processes h.0 h.1) h.2)
    where
      with_chain : (x : Option Area) → IsSomeAnd x (λ area. area.anon ≡ Some v)
          → IsSomeAnd x (λ area. is_in v (in_spaces.chain_by spaces now area.anon) ≡ true)
      with_chain None is = is
      with_chain (Some A) is = ap (λ own. is_in v (in_spaces.chain_by spaces now own)) is ∙ made.fit.own v h

  -- the chain of one that was owned before
  old_chain : (v : ℕ) → IsOwnedIn old.spaces v → in_spaces.chain_by old.spaces old.anons (Some v) ≡ chain_by s.anons (Some v)
  old_chain v h = by (areas_on old.spaces.processes h.0 h.1) refl h.2
    where
      by : (x : Option Area) → areas_on old.spaces.processes h.0 h.1 ≡ x → IsSomeAnd x (λ area. area.anon ≡ Some v) →
          in_spaces.chain_by old.spaces old.anons (Some v) ≡ chain_by s.anons (Some v)
      by None is own = absurd own
      by (Some A) is own = subst (λ o. in_spaces.chain_by old.spaces old.anons o ≡ chain_by s.anons o) own
          (area_chain d old s keeps old.spaces old.anons (stay_same old.spaces old.anons keeps.anons) h.0 h.1 A is)

  -- the kin that is shown
  shown_kin : (c : List ℕ) (i : Option Info) → option_map kin_of (option_map (anon_vma c) i) ≡ option_map kin_in i
  shown_kin c None = refl
  shown_kin c (Some i) = refl

  old_kin : (n : ℕ) → option_map kin_in (info_of old.anons n) ≡ option_map kin_of (s.anons.anon n)
  old_kin n = sym (shown_kin (in_spaces.chain_by old.spaces old.anons (Some n)) (info_of old.anons n)) ∙ keeps.stands.anons.kin n

  same_number : (n : ℕ) → (n == old.anons.next) ≡ (n == s.anons.next)
  same_number n = ap (λ k. n == k) next_is

  -- one is made, or none
  abbrev anons_by : Bool → Anons
  anons_by b = cond b (with_root s.anons) s.anons

  next_by : (b : Bool) → cond b (suc old.anons.next) old.anons.next ≡ (anons_by b).next
  next_by true = ap suc next_is
  next_by false = next_is

  kin_by : (n : ℕ) (b : Bool) → cond (b && n == old.anons.next) (Some (n, n)) (option_map kin_in (info_of old.anons n))
      ≡ option_map kin_of ((anons_by b).anon n)
  kin_by n false = old_kin n
  kin_by n true = ap (λ c. cond c (Some (n, n)) (option_map kin_in (info_of old.anons n))) (same_number n) ∙ by (n == s.anons.next) refl
    where
      by : (c : Bool) → (n == s.anons.next) ≡ c → cond c (Some (n, n)) (option_map kin_in (info_of old.anons n))
          ≡ option_map kin_of (cond c (Some (record { root = s.anons.next; parent = s.anons.next; chain = s.anons.next ∷ [] })) (s.anons.anon n))
      by true e = let is = number_is n s.anons.next e in λ i. Some (is i, is i)
      by false e = old_kin n

  chain_by_case : (v : ℕ) (b : Bool) → (IsOwnedIn spaces v → (b && v == old.anons.next) ≡ false → IsOwnedIn old.spaces v) → IsOwnedIn spaces v
      → cond (b && v == old.anons.next) (v ∷ []) (in_spaces.chain_by old.spaces old.anons (Some v)) ≡ chain_by (anons_by b) (Some v)
  chain_by_case v false was h = old_chain v (was h refl)
  chain_by_case v true was h = ap (λ c. cond c (v ∷ []) (in_spaces.chain_by old.spaces old.anons (Some v))) (same_number v)
      ∙ by (v == s.anons.next) refl
    where
      by : (c : Bool) → (v == s.anons.next) ≡ c → cond c (v ∷ []) (in_spaces.chain_by old.spaces old.anons (Some v))
          ≡ option_map_or (λ (w : AnonVma). w.chain) (cond c (Some (record { root = s.anons.next; parent = s.anons.next; chain = s.anons.next ∷ [] }))
          (s.anons.anon v)) []
      by true e = let is = number_is v s.anons.next e in λ i. is i ∷ []
      by false e = old_chain v (was h (same_number v ∙ e))

  pub anons_prepared : (new : Mem) → new.spaces ≡ spaces → new.anons ≡ now → AnonsStand (view new) (prepare_page p page (rmap_of s)).areas
      (prepare_page p page (rmap_of s)).anons
  anons_prepared new same_spaces same_anons =
      subst (λ b. AnonsStand (view new) (prepare_page p page (rmap_of s)).areas (anons_by b)) made_is (record {
        next = ap (λ (a : AnonSet). a.next) same_anons ∙ made.next ∙ next_by (made_for old.spaces old.anons p page);
        kin = λ n. ap (λ (a : Anons). option_map kin_of (a.anon n)) anons_are
            ∙ shown_kin (in_spaces.chain_by spaces now (Some n)) (info_of now n) ∙ made.kin n
            ∙ kin_by n (made_for old.spaces old.anons p page);
        chains = λ q o. chain_at q o ((prepare_page p page (rmap_of s)).areas q o) refl;
      })
    where
      anons_are : anons_of new.spaces new.anons ≡ anons_of spaces now
      anons_are = λ i. anons_of (same_spaces i) (same_anons i)

      own_chain : (A : Area) (q o : ℕ) → areas_on spaces.processes q o ≡ Some A → (own : Option ℕ) → A.anon ≡ own →
          chain_by (anons_of spaces now) own ≡ chain_by (anons_by (made_for old.spaces old.anons p page)) own
      own_chain A q o is None e = refl
      own_chain A q o is (Some v) e =
          let owned = owned_at v q o A is e in
          shown_chain spaces now v (there_now v owned) ∙ made.chains v owned
          ∙ chain_by_case v (made_for old.spaces old.anons p page) (made.owned v) owned

      chain_at : (q o : ℕ) (x : Option Area) → (prepare_page p page (rmap_of s)).areas q o ≡ x →
          IfSome x (λ area. chain_by (view new).anons area.anon ≡ chain_by (anons_by (made_for old.spaces old.anons p page)) area.anon)
      chain_at q o None e = tt
      chain_at q o (Some A) e = ap (λ (a : Anons). chain_by a A.anon) anons_are ∙ own_chain A q o (areas_prepared q o ∙ e) A.anon refl

-- what an area says of its pages stays, but for its anon_vma
marks_prepared : {X : Type 0} (mark : Area → X) → ((A : Area) (own : Option ℕ) → mark (record A { anon = own }) ≡ mark A)
    → (len : Lengths) (next page : ℕ) (on : Pages) → AreLaid on → (q : ℕ) → option_map mark (after_prepare len next page on q) ≡ option_map mark (on q)
marks_prepared mark same len next page on laid q = by (on page) refl
  where
    over : (A : Area) (own : Option ℕ) → on page ≡ Some A → (b : Bool) → has_page A q ≡ b →
        option_map mark (cond b (Some (record A { anon = own })) (on q)) ≡ option_map mark (on q)
    over A own e true has = ap Some (same A own) ∙ ap (option_map mark) (sym (laid.all page q A e has))
    over A own e false has = refl

    by : (o : Option Area) → on page ≡ o → option_map mark (with_anon len next o on q) ≡ option_map mark (on q)
    by None e = refl
    by (Some A) e = bare (is_some A.anon)
      where
        bare : (b : Bool) → option_map mark (cond b on (with_area (record A { anon = Some (unwrap_or (loan_beside len on A) next) }) on) q)
            ≡ option_map mark (on q)
        bare true = refl
        bare false = over A (Some (unwrap_or (loan_beside len on A) next)) e (has_page A q) refl

-- ---- what stands beside

module _ (d : Device) (old : Mem) (w : World) (r : Rmap) (l : Ledger) (h : KeepsBetween d old w r l) (spaces : AllSpaces) (now : AnonSet) (p page : ℕ)
    (changed : IsChanged old.spaces.processes spaces.processes p (AreThese
    (after_prepare (lengths old.spaces.areas old.anons) old.anons.next page (areas_on old.spaces.processes p))))
    (made : AnonsPrepare old.spaces old.anons spaces now p page) (lives : is_some (areas_of old.spaces.processes p) ≡ true) where
  abbrev keeps : Keeps d old (state_by old w r l)
  keeps = serves-keeps d old w r l h.sound h.serves

  abbrev new : Mem
  new = record old { spaces = spaces; anons = now }

  laid_before : AreLaid (r.areas p)
  laid_before = subst AreLaid (λ i o. h.serves.are p o i) (laid old.spaces.processes p changed.were_rising)

  lives_same : (q : ℕ) → is_some (areas_of spaces.processes q) ≡ is_some (areas_of old.spaces.processes q)
  lives_same q = by (q == p) refl
    where
      by : (b : Bool) → (q == p) ≡ b → is_some (areas_of spaces.processes q) ≡ is_some (areas_of old.spaces.processes q)
      by true e = ap (λ n. is_some (areas_of spaces.processes n)) (number_is q p e) ∙ changed.alive
          ∙ sym (ap (λ n. is_some (areas_of old.spaces.processes n)) (number_is q p e) ∙ lives)
      by false e = ap is_some (changed.others q (other_is q p e))

  marks_same : {X : Type 0} (mark : Area → X) → ((A : Area) (own : Option ℕ) → mark (record A { anon = own }) ≡ mark A) → (q o : ℕ)
      → option_map mark (areas_on spaces.processes q o) ≡ option_map mark (areas_on old.spaces.processes q o)
  marks_same mark same q o = by (q == p) refl
    where
      by : (b : Bool) → (q == p) ≡ b → option_map mark (areas_on spaces.processes q o) ≡ option_map mark (areas_on old.spaces.processes q o)
      by true e = ap (λ n. option_map mark (areas_on spaces.processes n o)) (number_is q p e) ∙ ap (option_map mark) (changed.pages o)
          ∙ marks_prepared mark same (lengths old.spaces.areas old.anons) old.anons.next page (areas_on old.spaces.processes p)
          (laid old.spaces.processes p changed.were_rising) o
          ∙ sym (ap (λ n. option_map mark (areas_on old.spaces.processes n o)) (number_is q p e))
      by false e = ap (λ a. option_map mark (pages_in a o)) (changed.others q (other_is q p e))

  -- the page's area has an anon_vma then
  pub prepared-owns : IsSome (areas_on old.spaces.processes p page) → IsSomeAnd ((prepare_page p page r).areas p page) (λ area. IsSome area.anon)
  prepared-owns there = owns-prepared l p page r laid_before h.serves.held.covered.frames (subst IsSome (h.serves.are p page) there)

  -- and what stood before stands
  pub prepared : KeepsBetween d new w (prepare_page p page r) l
  prepared = record {
    sound = h.sound;
    serves = record {
      held = subst (λ n. IsHeld (setting_by d old) (record (held_by d old w r l) {
        view = record (view old) { processes = n; areas = areas_of spaces.processes; anons = anons_of spaces now };
        rmap = prepare_page p page r;
      })) (sym changed.number)
          (prepared-held (setting_by d old) (held_by d old w r l) h.serves.held p page (areas_of spaces.processes) (anons_of spaces now) laid_before);
      locks = h.serves.locks;
      areas = record {
        alive = λ q. lives_same q ∙ h.serves.areas.alive q;
        number = changed.number ∙ h.serves.areas.number;
        apart = all_apart spaces.processes changed.rising;
        covers = λ q o. prots_are spaces.processes q o ∙ marks_same prot_on (λ A own. refl) q o ∙ sym (prots_are old.spaces.processes q o)
            ∙ h.serves.areas.covers q o;
        flags = λ q o. marks_same (λ (A : Area). A.flags) (λ A own. refl) q o ∙ h.serves.areas.flags q o;
      };
      are = areas_prepared d old (state_by old w r l) keeps spaces now p page changed made;
      anons = anons_prepared d old (state_by old w r l) keeps spaces now p page changed made new refl refl;
      tidy = h.serves.tidy;
      at_pages = h.serves.at_pages;
      there = h.serves.there;
      areas_fit = h.serves.areas_fit;
      free = h.serves.free;
      lists = h.serves.lists;
      items = h.serves.items;
      tables = λ q. h.serves.tables q ∙ alive_is old.spaces.processes q ∙ sym (lives_same q) ∙ sym (alive_is spaces.processes q);
      fit = made.fit;
      swap = record {
        frames = h.serves.swap.frames;
        closed = h.serves.swap.closed;
        on_device = h.serves.swap.on_device;
        by_headers = h.serves.swap.by_headers;
      };
    };
  }
