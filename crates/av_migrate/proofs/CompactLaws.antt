-- A compaction on its way: what stands after some moves, after one more, and in the end.
use Rattle.std.proofs.Common.{◌≡◌, ℕ, ◌+◌, ◌<◌, ◌≤◌, Bool, true, false, cond, ◌||◌, nat_lt, List, [], ◌∷◌, ◌++◌, Option, Some, None, refl, sym, ap, subst, ◌∙◌, arith, ◌==◌}
use Rattle.std.proofs.lemmas.Bool.{false≢true}
use Rattle.std.proofs.lemmas.Bool.Decides.{nat_tests}
use Rattle.av_base.specs.Words.{how_many, is_in}
use Rattle.av_vma.specs.Areas.{area_of}
use Rattle.av_anon.specs.Anons.{family}
use Rattle.av_rmap.specs.Items.{is_merged}
use Rattle.av_rmap.specs.Walk.{is_held}
use Rattle.av_trace.specs.declared.note.Note.{Note}
use Rattle.av_trace.specs.declared.note.Note.TheVariants.{Moved}
use Rattle.av_trace.specs.declared.reply.Answer.TheVariants.{Done}
use Rattle.av_plain.specs.Areas.{Rmap, rmap_after_all}
use Rattle.av_plain.specs.Choice.{Chooses, ChoosesAll}
use Rattle.av_plain.specs.Compact.{MovesDown, next_move}
use Rattle.av_plain.specs.Device.{Device, Wrote}
use Rattle.av_plain.specs.Event.{Event, FreeSorted, Noted, after_all, after_note, after_notes, note_events, notes_of}
use Rattle.av_plain.specs.Ledger.{Ledger, Setting, is_free}
use Rattle.av_plain.specs.Load.{with_loads}
use Rattle.av_plain.specs.Pass.{pages_written}
use Rattle.av_plain.specs.Sound.{uses}
use Rattle.av_plain.specs.Stands.{View, free_of}
use Rattle.av_plain.specs.World.{World}
use Rattle.av_plain.proofs.Access.{after_all-append, after_notes-append, chooses-append, note_events-all, note_events-append, notes_of-append}
use Rattle.av_plain.proofs.AreasLeft.{rmap_after_all-append}
use Rattle.av_plain.proofs.Compacted.{compact-lowest, compact-world}
use Rattle.av_plain.proofs.Sound.Changes.{free-is}
use Rattle.av_plain.proofs.Sound.Frames.{move-is}
use Rattle.av_plain.proofs.Wrote.{device-itself, wrote-none}
use Rattle.av_mem.specs.Between.{HasBetween, KeepsBetween}
use Rattle.av_mem.specs.Mem.{IsSteady, frame_count, locks_of, setting_by, view}
use Rattle.av_mem.specs.Steps.{KeepsBut, KeepsParts}
use Rattle.av_mem.specs.Walk.{areas_at, areas_at_all, areas_of_frame}
use Rattle.av_mem.specs.declared.mem.Mem.{Mem}
use Rattle.av_mem.proofs.KeepsLaws.{serves-keeps, state_by}
use Rattle.av_mem.proofs.ServesLaws.{setting-stays}
use Rattle.av_mem.proofs.StayLaws.{anons-stay, counts-are, parts-but, spaces-stay}
use Rattle.av_migrate.specs.Compact as specs
use Rattle.av_migrate.specs.Compact.{HasCompacted, steps_of, steps_of_all}
use Rattle.av_migrate.specs.Move.{MayMove, locks_moved, view_moved, view_ordered}
use Rattle.av_migrate.specs.Next.{AreNext, IsNext}
use Rattle.av_migrate.proofs.MoveStands.{without-in}
use Rattle.av_command_laws.proofs.NextMove.{MovesSoFar, next-none, next-some, so_far-all, so_far-more}
use Rattle.av_migrate.proofs.ServesMove.{moved-between, moved-chosen, ordered-between, ordered-chosen}

-- ---- what stands between two moves

pub record SoFar (d : Device) (old now : Mem) (w : World) (r : Rmap) (l : Ledger) (added : List Note) : Type 0 where
  pub moves : MovesSoFar (setting_by d old) l added
  pub between : KeepsBetween d now w (rmap_after_all l (note_events added) r) (after_notes l added)
  pub free : ChoosesAll (setting_by d old) None l (note_events added) (free_of (view old)) (free_of (view now))

-- frames below the first number are in use, those from the second on are free, and those between have moved nowhere
pub record Going (old now : Mem) (low past : ℕ) (before notes : List Note) (taken taken' : ℕ) : Type 0 where
  pub parts : KeepsBut (locks_of now) old now
  pub within : past ≤ frame_count old
  pub used : (f : ℕ) → f < low → is_in f (view now).free ≡ false
  pub free : (f : ℕ) → past ≤ f → f < frame_count old → is_in f (view now).free ≡ true
  pub homes : (f : ℕ) → low ≤ f → f < past → (view now).homes f ≡ (view old).homes f
  pub items : (f : ℕ) → low ≤ f → f < past → (view now).items f ≡ (view old).items f
  pub added : List Note
  pub are : notes ≡ before ++ added
  pub steps : taken' ≡ taken + steps_of_all old added
  pub stands : (d : Device) (w : World) (r : Rmap) (l : Ledger) → KeepsBetween d old w r l → SoFar d old now w r l added

append-none : (xs : List Note) → xs ≡ xs ++ []
append-none [] = refl
append-none (x ∷ xs) = ap (λ ys. x ∷ ys) (append-none xs)

append-assoc : (xs ys zs : List Note) → (xs ++ ys) ++ zs ≡ xs ++ (ys ++ zs)
append-assoc [] ys zs = refl
append-assoc (x ∷ xs) ys zs = ap (λ r. x ∷ r) (append-assoc xs ys zs)

pub going-start : (old : Mem) (notes : List Note) (taken : ℕ) → Going old old 0 (frame_count old) notes notes taken taken
going-start old notes taken = record {
  parts = record {
    stay = refl;
    processes = refl;
    count = refl;
    lists = refl;
    items = refl;
    swap = record { frames = refl; on = refl; bad = refl; closing = refl; priority = refl };
    locks = refl;
  };
  within = omega arith;
  used = λ f below. absurd (omega (arith, below));
  free = λ f low high. absurd (omega (arith, low, high));
  homes = λ f low high. refl;
  items = λ f low high. refl;
  added = [];
  are = append-none notes;
  steps = omega arith;
  stands = λ d w r l keeps. record { moves = tt; between = keeps; free = refl };
}

-- between two moves a walk may begin
pub going-steady : (old now : Mem) (low past : ℕ) (before notes : List Note) (taken taken' : ℕ) → Going old now low past before notes taken taken'
    → HasBetween old → IsSteady now
going-steady old now low past before notes taken taken' g has =
    let s = g.stands has.0 has.1 has.2 has.3 has.4 in
    let b = s.between in (
      has.0,
      state_by now has.1 (rmap_after_all has.3 (note_events g.added) has.2) (after_notes has.3 g.added),
      serves-keeps has.0 now has.1 (rmap_after_all has.3 (note_events g.added) has.2) (after_notes has.3 g.added) b.sound b.serves,
    )

-- a walk takes the steps that it would have taken before
walk-stays : {counts : ℕ → ℕ} (old now : Mem) (f : ℕ) → KeepsBut counts old now → (view now).homes f ≡ (view old).homes f → (view now).items f ≡ (view old).items f
    → areas_of_frame now f ≡ areas_of_frame old f
walk-stays old now f parts homes items =
    (λ i. cond (is_merged (items i)) (areas_at_all now (items i)) (areas_at now (homes i)))
    ∙ (λ i. cond (is_merged ((view old).items f)) (all ((view old).items f) i) (one ((view old).homes f) i))
  where
    one : (o : Option (ℕ × ℕ)) → areas_at now o ≡ areas_at old o
    one None = refl
    one (Some home) = λ i. how_many (λ a. is_held home.1 (area_of (spaces-stay parts i).areas a)) ((family (anons-stay parts i)).users home.0)

    all : (xs : List (ℕ × ℕ)) → areas_at_all now xs ≡ areas_at_all old xs
    all [] = refl
    all (x ∷ xs) = λ i. one (Some x) i + all xs i

steps-more : (k : Mem) (notes : List Note) (note : Note) → steps_of_all k (notes ++ note ∷ []) ≡ steps_of_all k notes + steps_of k note
steps-more k [] note = sum (steps_of k note)
  where
    sum : (n : ℕ) → n + 0 ≡ 0 + n
    sum n = omega arith
steps-more k (x ∷ xs) note = ap (λ n. steps_of k x + n) (steps-more k xs note) ∙ sum (steps_of k x) (steps_of_all k xs) (steps_of k note)
  where
    sum : (a b c : ℕ) → a + (b + c) ≡ (a + b) + c
    sum a b c = omega arith

-- ---- one more move

module _ (old now : Mem) (low past : ℕ) (before notes : List Note) (taken taken' : ℕ) (g : Going old now low past before notes taken taken') where
  -- the ledger has free what the frames have
  module _ (d : Device) (w : World) (r : Rmap) (l : Ledger) (keeps : KeepsBetween d old w r l) where
    abbrev so_far : SoFar d old now w r l g.added
    so_far = g.stands d w r l keeps

    abbrev m : Setting
    m = setting_by d old

    abbrev now_ledger : Ledger
    now_ledger = after_notes l g.added

    pub one-setting : setting_by d now ≡ m
    one-setting = setting-stays old now g.parts d d (device-itself d)

    pub free-now : (f : ℕ) → f < frame_count old → is_in f (view now).free ≡ is_free now_ledger f
    free-now f below = so_far.between.serves.held.ledger.frames.free f (subst (λ n. f < n) (sym g.parts.count) below)

  module _ (from to : ℕ) (next : AreNext (view now).free low past from to) where
    pub below-count : from < frame_count old
    below-count = let a = next.below in let b = g.within in omega (arith, a, b)

    pub may-move : (d : Device) (w : World) (r : Rmap) (l : Ledger) (keeps : KeepsBetween d old w r l)
        → MayMove (setting_by d now) (after_notes l g.added) from to
    may-move d w r l keeps = record {
      free = zero (uses (after_notes l g.added) to) (sym (free-is (after_notes l g.added) to) ∙ sym (free-now d w r l keeps to to_below) ∙ next.takes);
      used = some (uses (after_notes l g.added) from) (sym (free-is (after_notes l g.added) from) ∙ sym (free-now d w r l keeps from below-count) ∙ next.moves);
      below = subst (λ n. to < n) (sym g.parts.count) to_below;
    }
      where
        to_below : to < frame_count old
        to_below = let a = next.above in let b = below-count in omega (arith, a, b)

        zero : (n : ℕ) → (n == 0) ≡ true → n ≡ 0
        zero n e = grind (arith, nat_tests, e)

        some : (n : ℕ) → (n == 0) ≡ false → 0 < n
        some n e = grind (arith, nat_tests, e)

    -- frames below the least free one are in use, and those above the greatest in use are free
    low-used : (f : ℕ) → f < to → is_in f (view now).free ≡ false
    low-used f below = by (nat_lt f low) refl
      where
        by : (b : Bool) → nat_lt f low ≡ b → is_in f (view now).free ≡ false
        by true e = g.used f (grind (arith, nat_tests, e))
        by false e = next.least f (grind (arith, nat_tests, e)) below

    high-free : (f : ℕ) → from < f → f < frame_count old → is_in f (view now).free ≡ true
    high-free f above below = by (nat_lt f past) refl
      where
        by : (b : Bool) → nat_lt f past ≡ b → is_in f (view now).free ≡ true
        by true e = next.greatest f above (grind (arith, nat_tests, e))
        by false e = g.free f (grind (arith, nat_tests, e)) below

    pub next-is : (d : Device) (w : World) (r : Rmap) (l : Ledger) → KeepsBetween d old w r l
        → next_move (setting_by d old) (after_notes l g.added) ≡ Some (Moved from to)
    next-is d w r l keeps = next-some (setting_by d old) (after_notes l g.added) from to next.above below-count
        (sym (free-now d w r l keeps to (let a = next.above in let b = below-count in omega (arith, a, b))) ∙ next.takes)
        (sym (free-now d w r l keeps from below-count) ∙ next.moves)
        (λ f below. sym (free-now d w r l keeps f (let a = next.above in let b = below-count in omega (arith, a, b, below))) ∙ low-used f below)
        (λ f above below. sym (free-now d w r l keeps f below) ∙ high-free f above below)

    module _ (new : Mem) (seen : view new ≡ view_moved from to (view now)) (parts : KeepsBut (locks_moved from to (locks_of now)) now new) where
      free-then : (f : ℕ) → is_in f (view new).free ≡ ((f == from) || cond (f == to) false (is_in f (view now).free))
      free-then f = ap (λ (v : View). is_in f v.free) seen ∙ ap (λ b. (f == from) || b) (without-in to f (view now).free)

      so-far : (d : Device) (w : World) (r : Rmap) (l : Ledger) → KeepsBetween d old w r l → SoFar d old new w r l (g.added ++ Moved from to ∷ [])
      so-far d w r l keeps =
          let s = g.stands d w r l keeps in
          let may = may-move d w r l keeps in
          let events = note_events g.added in
          let here = rmap_after_all l events r in
          let ledger = after_notes l g.added in
          record {
            moves = so_far-more (setting_by d old) l g.added (Moved from to) s.moves (next-is d w r l keeps);
            between =
                subst (λ x. KeepsBetween d new w x (after_notes l (g.added ++ Moved from to ∷ [])))
                (sym (ap (λ es. rmap_after_all l es r) (note_events-append g.added (Moved from to ∷ []))
                ∙ rmap_after_all-append l events (note_events (Moved from to ∷ [])) r))
                (subst (λ x. KeepsBetween d new w (rmap_after_all (after_all l events) (note_events (Moved from to ∷ [])) here) x)
                (sym (after_notes-append l g.added (Moved from to ∷ [])))
                (moved-between d now new from to parts w here ledger s.between may seen));
            free = subst (λ es. ChoosesAll (setting_by d old) None l es (free_of (view old)) (free_of (view new)))
                (sym (note_events-append g.added (Moved from to ∷ [])))
                (chooses-append (setting_by d old) None l events (note_events (Moved from to ∷ [])) (free_of (view old)) (free_of (view now))
                (free_of (view new)) s.free
                (subst (λ x. ChoosesAll (setting_by d old) None x (note_events (Moved from to ∷ [])) (free_of (view now)) (free_of (view new)))
                (sym (note_events-all l g.added)) (
                  free_of (view new),
                  subst (λ m. Chooses m None ledger (Noted (Moved from to)) (free_of (view now)) (free_of (view new))) (one-setting d w r l keeps)
                      (moved-chosen d now new from to parts w here ledger s.between may seen),
                  refl,
                )));
          }

      pub going-more : (notes' : List Note) → notes' ≡ notes ++ Moved from to ∷ [] → (now_taken : ℕ) → now_taken ≡ taken' + areas_of_frame now from
          → Going old new (to + 1) from before notes' taken now_taken
      going-more notes' told now_taken steps = record {
        parts = counts-are (sym parts.locks) (parts-but g.parts parts);
        within = let b = below-count in omega (arith, b);
        used = λ f below. free-then f ∙ gone f below;
        free = λ f low high. free-then f ∙ here f low high;
        homes = λ f low high. ap (λ (v : View). v.homes f) seen
            ∙ ap (λ b. cond b ((view now).homes from) ((view now).homes f)) (apart f to (omega (arith, low)))
            ∙ g.homes f (low_too f low) (high_too f high);
        items = λ f low high. ap (λ (v : View). v.items f) seen
            ∙ ap (λ b. cond b [] (cond (f == to) ((view now).items from) ((view now).items f))) (under f from high)
            ∙ ap (λ b. cond b ((view now).items from) ((view now).items f)) (apart f to (omega (arith, low)))
            ∙ g.items f (low_too f low) (high_too f high);
        added = g.added ++ Moved from to ∷ [];
        are = told ∙ ap (λ ns. ns ++ Moved from to ∷ []) g.are ∙ append-assoc before g.added (Moved from to ∷ []);
        steps = let a = g.steps in let b : steps_of_all old (g.added ++ Moved from to ∷ []) ≡ steps_of_all old g.added + areas_of_frame old from =
            steps-more old g.added (Moved from to) in
            let c = walk-stays old now from g.parts (g.homes from from_low next.below) (g.items from from_low next.below) in omega (arith, steps, a, b, c);
        stands = so-far;
      }
        where
          from_low : low ≤ from
          from_low = let a = next.within in let b = next.above in omega (arith, a, b)

          apart : (f t : ℕ) → t < f → (f == t) ≡ false
          apart f t h = grind (arith, nat_tests, h)

          under : (f t : ℕ) → f < t → (f == t) ≡ false
          under f t h = grind (arith, nat_tests, h)

          low_too : (f : ℕ) → to + 1 ≤ f → low ≤ f
          low_too f h = let a = next.within in omega (arith, h, a)

          high_too : (f : ℕ) → f < from → f < past
          high_too f h = let a = next.below in omega (arith, h, a)

          gone : (f : ℕ) → f < to + 1 → ((f == from) || cond (f == to) false (is_in f (view now).free)) ≡ false
          gone f below = ap (λ b. b || cond (f == to) false (is_in f (view now).free)) (under f from (let a = next.above in omega (arith, a, below)))
              ∙ by (f == to) refl
            where
              by : (b : Bool) → (f == to) ≡ b → cond b false (is_in f (view now).free) ≡ false
              by true e = refl
              by false e = low-used f (grind (arith, nat_tests, e, below))

          here : (f : ℕ) → from ≤ f → f < frame_count old → ((f == from) || cond (f == to) false (is_in f (view now).free)) ≡ true
          here f low high = by (f == from) refl
            where
              by : (b : Bool) → (f == from) ≡ b → (b || cond (f == to) false (is_in f (view now).free)) ≡ true
              by true e = refl
              by false e = ap (λ b. cond b false (is_in f (view now).free)) (apart f to (let a = next.above in omega (arith, a, low)))
                  ∙ high-free f (grind (arith, nat_tests, e, low)) high

  -- ---- the end

  module _ (end : IsNext (view now).free low past None) (new : Mem) (seen : view new ≡ view_ordered (view now)) (parts : KeepsParts now new) where
    closed : (f h : ℕ) → f < h → h < frame_count old → is_in f (view now).free ≡ true → is_in h (view now).free ≡ true
    closed f h above below free = by (nat_lt f low) refl (nat_lt h past) refl
      where
        by : (a : Bool) → nat_lt f low ≡ a → (b : Bool) → nat_lt h past ≡ b → is_in h (view now).free ≡ true
        by true e b i = absurd (false≢true (sym (g.used f (grind (arith, nat_tests, e))) ∙ free))
        by false e true i = end f h (grind (arith, nat_tests, e)) above (grind (arith, nat_tests, i)) free
        by false e false i = g.free h (grind (arith, nat_tests, i)) below

    module _ (d : Device) (w : World) (r : Rmap) (l : Ledger) (keeps : KeepsBetween d old w r l) where
      abbrev all : List Event
      all = note_events g.added ++ FreeSorted ∷ []

      s : SoFar d old now w r l g.added
      s = g.stands d w r l keeps

      moves : MovesDown (setting_by d old) l g.added
      moves = so_far-all (setting_by d old) l g.added s.moves (next-none (setting_by d old) (after_notes l g.added)
          (λ f h above below free. sym (free-now d w r l keeps h below)
          ∙ closed f h above below (free-now d w r l keeps f (omega (arith, above, below)) ∙ free)))

      after-is : after_all l all ≡ after_notes l g.added
      after-is = after_all-append l (note_events g.added) (FreeSorted ∷ []) ∙ note_events-all l g.added

      world-is : with_loads (setting_by d old) w l all ≡ w
      world-is = compact-world (setting_by d old) w l all Done [] (g.added, moves, refl, refl, refl)

      written : pages_written (notes_of all) ≡ []
      written = ap pages_written (notes_of-append (note_events g.added) (FreeSorted ∷ []))
          ∙ none (setting_by d old) l g.added moves
        where
          none : (m : Setting) (l : Ledger) (notes : List Note) → MovesDown m l notes → pages_written (notes_of (note_events notes) ++ []) ≡ []
          none m l [] h = refl
          none m l (note ∷ notes) h = let v = move-is m l note h.0 in
              ap (λ n. pages_written ((n ∷ notes_of (note_events notes)) ++ [])) v.is ∙ none m (after_note note l) notes h.1

      between : KeepsBetween d new (with_loads (setting_by d old) w l all) (rmap_after_all l all r) (after_all l all)
      between = subst (λ x. KeepsBetween d new x (rmap_after_all l all r) (after_all l all)) (sym world-is)
          (subst (λ x. KeepsBetween d new w x (after_all l all)) (sym (rmap_after_all-append l (note_events g.added) (FreeSorted ∷ []) r))
          (subst (KeepsBetween d new w (rmap_after_all l (note_events g.added) r)) (sym after-is)
          (ordered-between d now new parts w (rmap_after_all l (note_events g.added) r) (after_notes l g.added) s.between seen)))

      chosen : ChoosesAll (setting_by d old) None l all (free_of (view old)) (free_of (view new))
      chosen = chooses-append (setting_by d old) None l (note_events g.added) (FreeSorted ∷ []) (free_of (view old)) (free_of (view now))
          (free_of (view new)) s.free
          (subst (λ x. ChoosesAll (setting_by d old) None x (FreeSorted ∷ []) (free_of (view now)) (free_of (view new)))
          (sym (note_events-all l g.added)) (
            free_of (view new),
            subst (λ m. Chooses m None (after_notes l g.added) FreeSorted (free_of (view now)) (free_of (view new))) (one-setting d w r l keeps)
                (ordered-chosen d now new parts w (rmap_after_all l (note_events g.added) r) (after_notes l g.added) s.between seen),
            refl,
          ))

      pub has-compacted : HasCompacted d old new w r l g.added
      has-compacted = record {
        moves = moves;
        done = record {
          between = between;
          free = chosen;
          same = device-itself d;
          wrote = subst (λ ps. Wrote ps d.history d.history) (sym written) (wrote-none d.history);
          count = parts.count ∙ g.parts.count;
        };
        leaves = compact-lowest (setting_by d old) w l all Done [] (record {
          world = keeps.serves.tidy;
          ledger = keeps.sound;
          at_pages = keeps.serves.at_pages;
          in_areas = keeps.serves.there;
          areas_fit = keeps.serves.areas_fit;
        }) (g.added, moves, refl, refl, refl);
      }

    pub going-end : specs.CompactsInSteps old new before notes taken taken'
    going-end = record { adds = record { added = g.added; notes = g.are; leaves = has-compacted }; steps = g.steps }
