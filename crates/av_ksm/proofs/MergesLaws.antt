-- The pages in turn: the notes of those that had theirs, and what is left to do, are what the definitions say of all.
use Rattle.std.proofs.Common.{◌≡◌, ℕ, ◌+◌, Bool, true, false, cond, ◌&&◌, T, List, [], ◌∷◌, ◌++◌, map, Option, Some, None, is_some, refl, sym, ap, subst, ◌∙◌}
use Rattle.std.proofs.lemmas.Bool.{false≢true}
use Rattle.std.proofs.lemmas.List.{append-nil, append_assoc}
use Rattle.std.specs.FinMap.Entries.{below_all, by_order, find, is_sorted, put}
use Rattle.std.specs.List.{list_all}
use Rattle.std.specs.Ordering.{is_eq}
use Rattle.std.specs.declared.cmp.Ordering.{Ordering}
use Rattle.std.specs.declared.cmp.Ordering.TheVariants.{Equal, Greater, Less}
use Rattle.av_base.specs.Keys.{Key, key_cmp}
use Rattle.av_base.proofs.Keys.{keys_total}
use Rattle.av_trace.specs.declared.note.Note.{Note}
use Rattle.av_trace.specs.declared.note.Note.TheVariants.{Shared}
use Rattle.av_plain.specs.Areas.{Rmap, rmap_after_all}
use Rattle.av_plain.specs.Device.{Device}
use Rattle.av_plain.specs.Event.{Event, after_note, after_notes, change_frame, note_events}
use Rattle.av_plain.specs.Ledger.{Entry, InFrame, Ledger, Setting, entry}
use Rattle.av_plain.specs.Merge.{FrameBytes, candidate, join_notes, merge_notes, merged_like, merges, other_like, with_candidate}
use Rattle.av_plain.specs.World.{World}
use Rattle.av_plain.proofs.Access.{after_notes-append, note_events-append}
use Rattle.av_plain.proofs.Event.{changed-by}
use Rattle.av_plain.proofs.Ledger.NoSwap.{key_at-address}
use Rattle.av_plain.proofs.Ledger.Order.{below_less, both_first, both_second, find_below}
use Rattle.av_plain.proofs.Load.{loads_nothing, without-loads}
use Rattle.av_plain.proofs.Sound.Frames.{candidate-is}
use Rattle.av_mem.specs.declared.mem.Mem.{Mem}
use Rattle.av_mem.specs.Between.{KeepsBetween}
use Rattle.av_mem.specs.Mem.{setting_by, view}
use Rattle.av_mem.proofs.Between.{setting-stays}
use Rattle.av_ksm.specs.Merging.{HasNoted, HasTurned, IsAware}
use Rattle.av_ksm.specs.Pages.{IsNextKey, keys_from}
use Rattle.av_ksm.specs.declared.contents.Contents.{Contents}
use Rattle.av_ksm.proofs.MergingDone.{noted-between, noted-none, noted-then}
use Rattle.av_ksm.proofs.PagesLaws.{from-first}

abbrev keys_of : Ledger → List Key
keys_of l = map (λ e. e.0) l.entries

-- ---- a turn changes no key

-- nor does a new entry of a key that has one
keys-put : (k : Key) (v : Entry) (es : List (Key × Entry)) → T (is_sorted key_cmp es) → is_some (find key_cmp k es) ≡ true
    → map (λ e. e.0) (put key_cmp k v es) ≡ map (λ e. e.0) es
keys-put k v [] sorted there = absurd (false≢true there)
keys-put k v (e ∷ es) sorted there = by (key_cmp k e.0) refl there (keys-put k v es (both_second _ _ sorted))
  where
    by : (o : Ordering) → key_cmp k e.0 ≡ o → is_some (cond (is_eq o) (Some e.1) (find key_cmp k es)) ≡ true
        → (is_some (find key_cmp k es) ≡ true → map (λ (e : Key × Entry). e.0) (put key_cmp k v es) ≡ map (λ (e : Key × Entry). e.0) es)
        → map (λ (e : Key × Entry). e.0) (by_order o ((k, v) ∷ e ∷ es) ((e.0, v) ∷ es) (e ∷ put key_cmp k v es)) ≡ e.0 ∷ map (λ (e : Key × Entry). e.0) es
    by Less is found rest = absurd (false≢true (sym (ap is_some (find_below keys_total (λ (e : Entry). true) k es
        (below_less keys_total (λ (e : Entry). true) k e.0 es is (both_first (below_all key_cmp e.0 es) (is_sorted key_cmp es) sorted)))) ∙ found))
    by Equal is found rest = refl
    by Greater is found rest = ap (λ ks. e.0 ∷ ks) (rest found)

keys-changed : (k : Key) (f : ℕ) (l : Ledger) → T (is_sorted key_cmp l.entries) → is_some (entry l k) ≡ true → keys_of (change_frame k f l) ≡ keys_of l
keys-changed k f l sorted there = changed-by keys_of (λ j x. refl) k f l ∙ keys-put k (InFrame f false) l.entries sorted there

keys-joined : (l : Ledger) (k : Key) (merged other : Option ℕ) → T (is_sorted key_cmp l.entries) → is_some (entry l k) ≡ true
    → keys_of (after_notes l (join_notes k merged other)) ≡ keys_of l
keys-joined l k (Some g) other sorted there = ap (λ q. keys_of (change_frame q g l)) (key_at-address k) ∙ keys-changed k g l sorted there
keys-joined l k None (Some h) sorted there = ap (λ q. keys_of (change_frame q h (after_note (Shared h) l))) (key_at-address k)
    ∙ keys-changed k h (after_note (Shared h) l) sorted there
keys-joined l k None None sorted there = refl

keys-turn : (m : Setting) (held : FrameBytes) (w : World) (l : Ledger) (earlier : List ℕ) (k : Key) → T (is_sorted key_cmp l.entries)
    → keys_of (after_notes l (merge_notes m held l earlier k (candidate w l k))) ≡ keys_of l
keys-turn m held w l earlier k sorted = by (candidate w l k) refl
  where
    by : (o : Option ℕ) → candidate w l k ≡ o → keys_of (after_notes l (merge_notes m held l earlier k o)) ≡ keys_of l
    by None is = refl
    by (Some f) is = keys-joined l k (merged_like m held l f) (other_like held earlier f) sorted (ap is_some (candidate-is w l k f is).names)

-- ---- and loads nothing

loads-turn : (m : Setting) (held : FrameBytes) (l : Ledger) (earlier : List ℕ) (k : Key) (o : Option ℕ)
    → list_all loads_nothing (note_events (merge_notes m held l earlier k o)) ≡ true
loads-turn m held l earlier k None = refl
loads-turn m held l earlier k (Some f) = by (merged_like m held l f) (other_like held earlier f)
  where
    by : (a b : Option ℕ) → list_all loads_nothing (note_events (join_notes k a b)) ≡ true
    by (Some g) b = refl
    by None (Some h) = refl
    by None None = refl

loads-then : (xs ys : List Note) → list_all loads_nothing (note_events xs) ≡ true → list_all loads_nothing (note_events ys) ≡ true
    → list_all loads_nothing (note_events (xs ++ ys)) ≡ true
loads-then xs ys a b = ap (list_all loads_nothing) (note_events-append xs ys) ∙ both (note_events xs) (note_events ys) a b
  where
    both : (es fs : List Event) → list_all loads_nothing es ≡ true → list_all loads_nothing fs ≡ true → list_all loads_nothing (es ++ fs) ≡ true
    both [] fs a b = b
    both (e ∷ es) fs a b = by (loads_nothing e) a (λ a. both es fs a b)
      where
        by : (c : Bool) → (c && list_all loads_nothing es) ≡ true → (list_all loads_nothing es ≡ true → list_all loads_nothing (es ++ fs) ≡ true)
            → (c && list_all loads_nothing (es ++ fs)) ≡ true
        by true a rest = rest a
        by false a rest = absurd (false≢true a)

-- ---- between two turns

-- the pages before one have had their turn: these are their notes, and what the definitions say of all is these, and then what they say of the others
pub record HasPassed (d : Device) (old now : Mem) (w : World) (r : Rmap) (l : Ledger) (from : Key) (c : Contents) (before notes : List Note) : Type 0 where
  pub added : List Note
  pub earlier : List ℕ
  pub noted : HasNoted d old now w r l added before notes
  pub loads : list_all loads_nothing (note_events added) ≡ true
  pub aware : IsAware d now (after_notes l added) earlier c
  pub keys : keys_of (after_notes l added) ≡ keys_of l
  pub whole : merges (setting_by d old) (view old).bytes w l [] (keys_of l)
      ≡ added ++ merges (setting_by d old) (view old).bytes w (after_notes l added) earlier (keys_from from (keys_of l))

module _ (d : Device) (old : Mem) (w : World) (r : Rmap) (l : Ledger) (h : KeepsBetween d old w r l) where
  pub passed-none : (c : Contents) (notes : List Note) → IsAware d old l [] c → HasPassed d old old w r l (0, 0) c notes notes
  passed-none c notes aware = record {
    added = [];
    earlier = [];
    noted = noted-none d old w r l notes h;
    loads = refl;
    aware = aware;
    keys = refl;
    whole = ap (merges (setting_by d old) (view old).bytes w l []) (sym (from-first (keys_of l)));
  }

module _ (d : Device) (old now : Mem) (w : World) (r : Rmap) (l : Ledger) (from : Key) (c : Contents) (before notes : List Note)
    (passed : HasPassed d old now w r l from c before notes) where
  abbrev after_it : Ledger
  after_it = after_notes l passed.added

  -- what stands then
  pub passed-between : KeepsBetween d now w (rmap_after_all l (note_events passed.added) r) (after_notes l passed.added)
  passed-between = noted-between d old now w r l passed.added before notes passed.noted
      (without-loads (setting_by d old) w l (note_events passed.added) passed.loads)

  pub passed-all : IsNextKey from (keys_of (after_notes l passed.added)) None
      → HasNoted d old now w r l (merges (setting_by d old) (view old).bytes w l [] (keys_of l)) before notes
  passed-all none = subst (λ ns. HasNoted d old now w r l ns before notes)
      (sym (passed.whole ∙ ap (λ ks. passed.added ++ merges (setting_by d old) (view old).bytes w (after_notes l passed.added) passed.earlier ks)
      (ap (keys_from from) (sym passed.keys) ∙ none) ∙ append-nil passed.added)) passed.noted

  -- one setting
  same-setting : setting_by d now ≡ setting_by d old
  same-setting = setting-stays d d old now passed.noted.done.same passed.noted.done.count

  -- the notes of a page's turn then, and those of all from some pages on
  abbrev turn : Key → Setting → FrameBytes → List Note
  turn k m held = merge_notes m held after_it passed.earlier k (candidate w after_it k)

  abbrev then_earlier : Key → List ℕ
  then_earlier k = with_candidate passed.earlier (candidate w after_it k)

  abbrev all : Ledger → List ℕ → List Key → List Note
  all x earlier ks = merges (setting_by d old) (view old).bytes w x earlier ks

  abbrev here : Key → List Note
  here k = turn k (setting_by d now) (view now).bytes

  abbrev first_here : Key → List Note
  first_here k = turn k (setting_by d old) (view old).bytes

  abbrev rest : Key → List Note → List Note
  rest k ns = all (after_notes after_it ns) (then_earlier k) (keys_from (k.0, k.1 + 1) (keys_of l))

  -- and once one more has had its turn
  pub passed-one : (k : Key) → IsNextKey from (keys_of (after_notes l passed.added)) (Some k) → (view now).bytes ≡ (view old).bytes
      → (new : Mem) (c' : Contents) (notes' : List Note)
      → HasTurned d now new w (rmap_after_all l (note_events passed.added) r) (after_notes l passed.added) passed.earlier k c' notes notes'
      → HasPassed d old new w r l (k.0, k.1 + 1) c' before notes'
  passed-one k next same new c' notes' turned = record {
    added = passed.added ++ here k;
    earlier = then_earlier k;
    noted = noted-then d old now w r l passed.added before notes passed.noted
        (without-loads (setting_by d old) w l (note_events passed.added) passed.loads) new (here k) notes' turned.noted;
    loads = loads-then passed.added (here k) passed.loads (loads-turn (setting_by d now) (view now).bytes after_it passed.earlier k (candidate w after_it k));
    aware = subst (λ x. IsAware d new x (then_earlier k) c') (sym (after_notes-append l passed.added (here k))) turned.aware;
    keys = ap keys_of (after_notes-append l passed.added (here k))
        ∙ keys-turn (setting_by d now) (view now).bytes w after_it passed.earlier k passed-between.sound.in_order ∙ passed.keys;
    whole = passed.whole
        ∙ ap (λ ks. passed.added ++ all after_it passed.earlier ks)
        (ap (keys_from from) (sym passed.keys) ∙ next ∙ ap (λ ks. k ∷ keys_from (k.0, k.1 + 1) ks) passed.keys)
        ∙ sym (append_assoc passed.added (first_here k) (rest k (first_here k)))
        ∙ ap (λ ns. passed.added ++ ns ++ rest k ns) (λ i. turn k (sym same-setting i) (sym same i))
        ∙ ap (λ x. passed.added ++ here k ++ all x (then_earlier k) (keys_from (k.0, k.1 + 1) (keys_of l)))
        (sym (after_notes-append l passed.added (here k)));
  }
