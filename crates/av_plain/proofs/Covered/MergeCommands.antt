-- A merge and a compaction keep frames and slots covered.
use Rattle.std.proofs.Common.{◌≡◌, ℕ, ◌+◌, ◌<◌, Bool, true, false, cond, ◌||◌, ◌&&◌, nat_lt, T, List, [], ◌∷◌, ◌++◌, filter, map, Option, Some, None, refl, sym, ap, subst, ◌∙◌, arith, ◌==◌}
use Rattle.std.proofs.lemmas.Bool.{false≢true}
use Rattle.std.proofs.lemmas.Bool.Decides.{nat_tests}
use Rattle.std.specs.FinMap.Entries.{is_sorted}
use Rattle.std.specs.List.{list_any, range_with_len}
use Rattle.std.specs.Prelude.{IsSomeAnd}
use Rattle.av_base.specs.Keys.{Key, key_cmp, same_key}
use Rattle.av_base.proofs.Keys.{same_key-itself}
use Rattle.av_base.specs.Page.{address_of}
use Rattle.av_base.specs.Words.{how_many}
use Rattle.av_base.specs.declared.slot.Slot.{Slot}
use Rattle.av_trace.specs.declared.note.Note.{Note}
use Rattle.av_trace.specs.declared.note.Note.TheVariants.{Joined, Shared}
use Rattle.av_trace.specs.declared.reply.Answer.{Answer}
use Rattle.av_trace.specs.declared.row.Row.{Row}
use Rattle.av_plain.specs.Areas.{Rmap, rmap_after_all, rmap_after_note, with_item_of}
use Rattle.av_plain.specs.Compact.{Compacts, MovesDown}
use Rattle.av_plain.specs.Event.{Event, FreeSorted, after_all, after_note, after_notes, change_frame, note_events}
use Rattle.av_plain.specs.Ledger.{Entry, Ledger, Setting, entry, frame_at, is_merged, map_count, names_frame}
use Rattle.av_plain.specs.Merge.{FrameBytes, Merges, candidate, hold_same, join_notes, merge_notes, merged_like, merges, other_like, with_candidate}
use Rattle.av_plain.specs.Sound.{AllSound, IsSound, holders, mergings}
use Rattle.av_plain.specs.World.{World}
use Rattle.av_plain.proofs.Access.{after_all-append, note_events-all}
use Rattle.av_plain.proofs.AreasLeft.{rmap_after_all-append}
use Rattle.av_plain.proofs.Covered.{Names}
use Rattle.av_plain.proofs.Covered.Merging.{joined-reach, moved-reach, shared-reach}
use Rattle.av_plain.proofs.Covered.Swap.{Reach, unmerged-by}
use Rattle.av_plain.proofs.Ledger.{how_many-append}
use Rattle.av_plain.proofs.Ledger.NoSwap.{key_at-address}
use Rattle.av_plain.proofs.Ledger.Walk.{keys-filter, passes}
use Rattle.av_plain.proofs.Sound.Changes.{any-counts}
use Rattle.av_plain.proofs.Sound.Counts.{frame_at-some, pair-frame, same-itself, same-turned}
use Rattle.av_plain.proofs.Sound.Entries.{flag}
use Rattle.av_plain.proofs.Sound.Frames.{AreBefore, IsCandidate, IsOther, candidate-is, found-is, is-positive, move-holds, move-is, other-waits, split, turned}
use Rattle.av_plain.proofs.Sound.Swap.{Holds, of-sound}

-- what holds after these notes
abbrev NotesReach : Ledger → Rmap → List Note → Type 0
NotesReach l r notes = Reach (after_notes l notes) (rmap_after_all l (note_events notes) r)

notes-then : (l : Ledger) (r : Rmap) (a b : List Note) → NotesReach (after_notes l a) (rmap_after_all l (note_events a) r) b → NotesReach l r (a ++ b)
notes-then l r [] b h = h
notes-then l r (note ∷ a) b h = notes-then (after_note note l) (rmap_after_note l note r) a b h

-- ---- a frame that is counted has an entry

filter-none : (p : Entry → Bool) (es : List (Key × Entry)) → filter (λ e. p e.1) es ≡ [] → how_many (λ e. p e.1) es ≡ 0
filter-none p [] h = refl
filter-none p (e ∷ es) h = by (filter-none p es) (p e.1) h
  where
    by : (filter (λ e. p e.1) es ≡ [] → how_many (λ e. p e.1) es ≡ 0) → (b : Bool)
        → cond b (e ∷ filter (λ e. p e.1) es) (filter (λ e. p e.1) es) ≡ [] → cond b 1 0 + how_many (λ e. p e.1) es ≡ 0
    by again true h = cc
    by again false h = let z = again h in omega (arith, z)

pub some-entry : (l : Ledger) (f : ℕ) → T (is_sorted key_cmp l.entries) → 0 < map_count l f → (k : Key) × Names l k f
some-entry l f sorted some = by (filter (λ e. names_frame f e.1) l.entries) refl
  where
    named : (k : Key) (o : Option Entry) → passes (names_frame f) o ≡ true → IsSomeAnd o (λ e. names_frame f e ≡ true)
    named k None h = absurd (false≢true h)
    named k (Some e) h = h

    by : (es : List (Key × Entry)) → filter (λ e. names_frame f e.1) l.entries ≡ es → (k : Key) × Names l k f
    by [] is = let z = filter-none (names_frame f) l.entries is in absurd (omega (arith, z, some))
    by (e ∷ es) is = (
      e.0,
      named e.0 (entry l e.0) (sym (keys-filter (names_frame f) l.entries e.0 sorted)
          ∙ ap (λ es. list_any (same_key e.0) (map (λ e. e.0) es)) is
          ∙ ap (λ b. b || list_any (same_key e.0) (map (λ e. e.0) es)) (same_key-itself e.0)),
    )

-- one without uses of the cache is cached at no slot
out-of-cache : (l : Ledger) (f : ℕ) → holders l f ≡ 0 → (s : Slot) → frame_at l s ≡ Some f → ⊥
out-of-cache l f out s at = let p = frame_at-some f s l.cache at in let q = pair-frame s f l.cache in omega (arith, p, q, out)

merged-by : (l : Ledger) (f : ℕ) → 0 < mergings l f → is_merged l f ≡ true
merged-by l f some = any-counts (λ y. f == y) l.merged ∙ is-positive (mergings l f) some

-- ---- a merge

module _ (m : Setting) (held : FrameBytes) (w : World) where
  join-reach : (l : Ledger) (r : Rmap) (k : Key) (f j : ℕ) → Reach l r → IsCandidate w l k f → 0 < mergings l j
      → NotesReach l r (Joined k.0 (address_of k.1) j ∷ [])
  join-reach l r k f j h c merge = subst (λ q. Reach (change_frame q j l) (with_item_of j q r)) (sym (key_at-address k))
      (joined-reach l r k j f c.seen h c.names (unmerged-by l f c.unmerged) (merged-by l j merge))

  turn-reach : (l : Ledger) (r : Rmap) (k : Key) (f : ℕ) (earlier : List ℕ) → IsSound m l → Reach l r → IsCandidate w l k f
      → AreBefore held l earlier → NotesReach l r (merge_notes m held l earlier k (Some f))
  turn-reach l r k f earlier s h c before = by (merged_like m held l f) refl (other_like held earlier f) refl
    where
      shares : (j : ℕ) → IsOther held l f j → NotesReach l r (join_notes k None (Some j))
      shares j o =
          let u = o.waits in
          let at = some-entry l j h.in_order u.named in
          let l1 = after_note (Shared j) l in
          let more : (g : ℕ) → mergings (after_note (Shared j) l) g ≡ mergings l g + (cond (g == j) 1 0 + 0) =
          λ g. how_many-append (λ y. g == y) l.merged (j ∷ []) in
          let c1 : IsCandidate w (after_note (Shared j) l) k f = record {
            seen = c.seen;
            names = c.names;
            may = c.may;
            unmerged = (let e = more f in let d = flag _ _ (same-turned f j ∙ o.apart) in let z = c.unmerged in omega (arith, e, d, z));
            out = c.out;
            unlocked = c.unlocked;
          } in
          join-reach l1 (rmap_after_note l (Shared j) r) k f j
          (shared-reach l r j at.0 h (unmerged-by l j u.unmerged) at.1 (out-of-cache l j u.out)) c1
          (let e = more j in let d = flag _ _ (same-itself j) in omega (arith, e, d))

      by : (a : Option ℕ) → merged_like m held l f ≡ a → (b : Option ℕ) → other_like held earlier f ≡ b → NotesReach l r (join_notes k a b)
      by (Some g) is b is' =
          let found = found-is (λ g. is_merged l g && hold_same held g f) (range_with_len 0 m.frames) g is in
          let tests = split (is_merged l g) (hold_same held g f) found.0 in
          join-reach l r k f g h c (some (mergings l g) (sym (any-counts (λ y. g == y) l.merged) ∙ tests.0))
        where
          some : (n : ℕ) → nat_lt 0 n ≡ true → 0 < n
          some n e = grind (arith, nat_tests, e)
      by None is (Some j) is' = shares j (other-waits m held l f j earlier s before is is')
      by None is None is' = h

  merges-reach : (l : Ledger) (r : Rmap) (earlier : List ℕ) (ks : List Key) → Holds m w l → AreBefore held l earlier → Reach l r
      → NotesReach l r (merges m held w l earlier ks)
  merges-reach l r earlier [] holds before h = h
  merges-reach l r earlier (k ∷ ks) holds before h =
      let here = merge_notes m held l earlier k (candidate w l k) in
      let x = turned m held w l k earlier holds before in
      notes-then l r here (merges m held w (after_notes l here) (with_candidate earlier (candidate w l k)) ks)
      (merges-reach (after_notes l here) (rmap_after_all l (note_events here) r) (with_candidate earlier (candidate w l k)) ks x.holds x.before
      (turn (candidate w l k) refl))
    where
      turn : (o : Option ℕ) → candidate w l k ≡ o → NotesReach l r (merge_notes m held l earlier k o)
      turn None is = h
      turn (Some f) is = turn-reach l r k f earlier holds.sound h (candidate-is w l k f is) before

pub merge-reach : (m : Setting) (w : World) (l : Ledger) (r : Rmap) (events : List Event) (answer : Answer) (rows : List Row) → AllSound m w l → Reach l r
    → Merges m w l events answer rows → Reach (after_all l events) (rmap_after_all l events r)
merge-reach m w l r events answer rows s h is =
    let ks = map (λ e. e.0) l.entries in
    subst (λ es. Reach (after_all l es) (rmap_after_all l es r)) (sym is.2)
    (subst (λ x. Reach x (rmap_after_all l (note_events (merges m is.0 w l [] ks)) r)) (sym (note_events-all l (merges m is.0 w l [] ks)))
    (merges-reach m is.0 w l r [] ks (of-sound m w l s) (λ j in_list. cc) h))

-- ---- a compaction

moves-reach : (m : Setting) (w : World) (l : Ledger) (r : Rmap) (notes : List Note) → Holds m w l → MovesDown m l notes → Reach l r → NotesReach l r notes
moves-reach m w l r [] holds moves h = h
moves-reach m w l r (note ∷ notes) holds moves h =
    moves-reach m w (after_note note l) (rmap_after_note l note r) notes (move-holds m w l note holds moves.0) moves.1 one
  where
    one : Reach (after_note note l) (rmap_after_note l note r)
    one = let v = move-is m l note moves.0 in subst (λ n. Reach (after_note n l) (rmap_after_note l n r)) (sym v.is)
        (moved-reach m l r v.from v.to h holds.sound v.free v.used v.below)

pub compact-reach : (m : Setting) (w : World) (l : Ledger) (r : Rmap) (events : List Event) (answer : Answer) (rows : List Row) → AllSound m w l
    → Reach l r → Compacts m l events answer rows → Reach (after_all l events) (rmap_after_all l events r)
compact-reach m w l r events answer rows s h compacts = subst (λ es. Reach (after_all l es) (rmap_after_all l es r)) (sym compacts.2)
    (subst (λ x. Reach x (rmap_after_all l (note_events compacts.0 ++ FreeSorted ∷ []) r))
    (sym (after_all-append l (note_events compacts.0) (FreeSorted ∷ []) ∙ note_events-all l compacts.0))
    (subst (Reach (after_notes l compacts.0)) (sym (rmap_after_all-append l (note_events compacts.0) (FreeSorted ∷ []) r))
    (moves-reach m w l r compacts.0 (of-sound m w l s) compacts.1 h)))
