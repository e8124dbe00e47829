-- In a run each anon_vma that an area says has been made: so its number is below the next one's.
use Rattle.std.specs.List.{AllByRecursion}
use Rattle.std.specs.Option.{option_map_or, option_or}
use Rattle.std.proofs.Common.{◌≡◌, ◌⊎◌, inl, inr, ◌++◌, ◌||◌, ℕ, zero, suc, ◌+◌, ◌-◌, ◌<◌, ◌≤◌, Bool, true, false, not, ◌&&◌, ◌==◌, List, [], ◌∷◌, map, Option, Some, None, IfSome, is_some, option_map, refl, sym, ap, subst, ◌∙◌, arith, nat_lt, if◌then◌else◌}
use Rattle.std.proofs.lemmas.Bool.{false≢true}
use Rattle.std.proofs.lemmas.Bool.Decides.{nat_tests}
use Rattle.std.specs.Prelude.{max, min, unwrap_or}
use Rattle.av_base.specs.Keys.{Key}
use Rattle.av_base.specs.Page.{address_of, page_of, pages_of}
use Rattle.av_base.specs.Words.{is_in, with_at, within}
use Rattle.av_base.specs.Flags.{no_flags, unlocked}
use Rattle.av_base.specs.declared.flags.Flags.{Flags}
use Rattle.av_base.specs.declared.prot.Prot.{Prot}
use Rattle.av_vma.specs.Fork.{areas_to_fork, forked_area, own_to_fork}
use Rattle.av_vma.specs.declared.area.Area.{Area}
use Rattle.av_vma.specs.Index.{first_of, past_of}
use Rattle.av_vma.specs.Join.{can_lend}
use Rattle.av_vma.specs.Pages.{AreLaid, Effect, Lengths, Pages, after_join, after_map, after_unmap, alters_at, split_at, do_join, fresh_area, has_page, join_of, joined_around, joined_at, loan_beside, loan_of, makes_anon, page_changed, pages_changed, pages_in, part_changed, part_of, to_flag, to_prot, with_anon, with_area, with_effect, with_effect_on, without_range}
use Rattle.av_text.specs.Number.{IsWide}
use Rattle.av_trace.specs.declared.command.Command.{Command}
use Rattle.av_trace.specs.declared.command.Command.TheVariants.{Spawn, Exit, Mmap, Mremap, Munmap, Mprotect}
use Rattle.av_trace.specs.declared.note.Note.{Note}
use Rattle.av_trace.specs.declared.note.Note.TheVariants.{Copied, Joined, Moved, New, Loaded, Shared}
use Rattle.av_trace.specs.declared.place.Place.{Place}
use Rattle.av_trace.specs.declared.place.Place.TheVariants.{Auto, At, Fixed, NoReplace}
use Rattle.av_trace.specs.declared.reply.Answer.{Answer}
use Rattle.av_trace.specs.declared.reply.Answer.TheVariants.{Done, MapAt, Refused}
use Rattle.av_trace.specs.declared.reply.Errno.TheVariants.{Enomem}
use Rattle.av_trace.specs.declared.reply.Reply.{Reply}
use Rattle.av_trace.specs.declared.row.Row.{Row}
use Rattle.av_plain.specs.Areas.{Anons, AnonVma, Areas, areas_to_hole, AreLeft, AreNext, at_home, chain_length, chain_by, next_areas, none_on, prepare_page, Rmap, rmap_after, rmap_after_all, rmap_after_note, rmap_after_use, root_anon, with_room, with_root, root_of}
use Rattle.av_plain.specs.Event.{Event, FlagSet, Noted, Used, after}
use Rattle.av_plain.specs.Fork.{AreForked, GoOver, GoesBy}
use Rattle.av_vma.specs.Mremap.{after_grow, after_move, after_resize, grown_to, joined_over, moved_area, moved_range, page_left, pages_left}
use Rattle.av_plain.specs.Ledger.{Entry, InFrame, Ledger, Setting, entry}
use Rattle.av_plain.specs.Mremap.{after_mremap, leaves_old, with_old_range}
use Rattle.av_plain.specs.Refusal.{wraps}
use Rattle.av_plain.specs.Report.{AreRowsOf, area_row}
use Rattle.av_plain.specs.Transcript.{Exchange, IsRun, IsStep, State, rmap_of}
use Rattle.av_plain.specs.World.{World, pages, pages_to_hole}
use Rattle.av_plain.proofs.Report.Areas.{all_from, on_first}
use Rattle.av_plain.proofs.Transcript.{IsFork, IsPlain, next-cases}
use Rattle.av_laws.specs.ReadBack.{IsWideRow}

-- ---- own anon_vmas

abbrev IsBelow : ℕ → Option ℕ → Type 0
IsBelow n own = IfSome own (λ v. v < n)

abbrev AreaBelow : ℕ → Option Area → Type 0
AreaBelow n o = IfSome o (λ (a : Area). IsBelow n a.anon)

-- that of each area is below n
abbrev OwnBelow : ℕ → Pages → Type 0
OwnBelow n on = (page : ℕ) → AreaBelow n (on page)

abbrev AllBelow : ℕ → Areas → Type 0
AllBelow n on = (p : ℕ) → OwnBelow n (on p)

more : (n n' : ℕ) (own : Option ℕ) → n ≤ n' → IsBelow n own → IsBelow n' own
more n n' None le h = tt
more n n' (Some v) le h = omega (arith, le, h)

more_area : (n n' : ℕ) (o : Option Area) → n ≤ n' → AreaBelow n o → AreaBelow n' o
more_area n n' None le h = tt
more_area n n' (Some a) le h = more n n' a.anon le h

either : (n : ℕ) (x y : Option ℕ) → IsBelow n x → IsBelow n y → IsBelow n (option_or x y)
either n None y h g = g
either n (Some v) y h g = h

same_own : (n : ℕ) (f : Area → Area) → ((a : Area) → (f a).anon ≡ a.anon) → (o : Option Area) → AreaBelow n o → AreaBelow n (option_map f o)
same_own n f same None h = tt
same_own n f same (Some a) h = subst (IsBelow n) (sym (same a)) h

-- ---- what changes areas

part-own : (at page : ℕ) (a : Area) → (part_of at page a).anon ≡ a.anon
part-own at page a = elim (nat_lt page at) as (λ b. (if b then record a { end = min a.end (address_of at) } else record a {
  start = max a.start (address_of at);
  pgoff = a.pgoff + (at - first_of a);
}).anon ≡ a.anon) [
  | true ↦ refl
  | false ↦ refl
]

split-below : (n at : ℕ) (on : Pages) → OwnBelow n on → OwnBelow n (split_at at on)
split-below n at on h page = same_own n (part_of at page) (part-own at page) (on page) (h page)

without-below : (n from past : ℕ) (on : Pages) → OwnBelow n on → OwnBelow n (without_range from past on)
without-below n from past on h page = by (within from (past - from) page)
  where
    by : (b : Bool) → AreaBelow n (if b then None else on page)
    by true = tt
    by false = h page

unmap-below : (n from past : ℕ) (on : Pages) → OwnBelow n on → OwnBelow n (after_unmap from past on)
unmap-below n from past on h =
    without-below n from past (split_at past (split_at from on)) (split-below n past (split_at from on) (split-below n from on h))

join-below : (n : ℕ) (len : Lengths) (left right : Option Area) (page : ℕ) (now : Option Area) → AreaBelow n left → AreaBelow n right
    → AreaBelow n now
    → AreaBelow n (after_join len left right page now)
join-below n len None right page now l r h = h
join-below n len (Some a) None page now l r h = h
join-below n len (Some a) (Some b) page now l r h = by (do_join len a b && has_page (join_of a b) page)
  where
    by : (c : Bool) → AreaBelow n (if c then Some (join_of a b) else now)
    by true = either n a.anon b.anon l r
    by false = h

joined-below : (n : ℕ) (len : Lengths) (at : ℕ) (on : Pages) → OwnBelow n on → OwnBelow n (joined_at len at on)
joined-below n len at on h page = join-below n len (on (at - 1)) (on at) page (on page) (h (at - 1)) (h at) (h page)

around-below : (n : ℕ) (len : Lengths) (from past : ℕ) (on : Pages) → OwnBelow n on → OwnBelow n (joined_around len from past on)
around-below n len from past on h = joined-below n len past (joined_at len from on) (joined-below n len from on h)

with-below : (n : ℕ) (area : Area) (on : Pages) → IsBelow n area.anon → OwnBelow n on → OwnBelow n (with_area area on)
with-below n area on is h page = by (has_page area page)
  where
    by : (b : Bool) → AreaBelow n (if b then Some area else on page)
    by true = is
    by false = h page

map-below : (n : ℕ) (len : Lengths) (p from past : ℕ) (prot : Prot) (flags : Flags) (on : Pages) → OwnBelow n on
    → OwnBelow n (after_map len p from past prot flags on)
map-below n len p from past prot flags on h = around-below n len from past (with_area (fresh_area p from past prot flags) on)
    (with-below n (fresh_area p from past prot flags) on tt h)

effect-below : (n from past : ℕ) (effect : Effect) (on : Pages) → OwnBelow n on → OwnBelow n (with_effect_on from past effect on)
effect-below n from past effect on h page = by (within from (past - from) page)
  where
    by : (b : Bool) → AreaBelow n (if b then option_map (with_effect effect) (on page) else on page)
    by true = same_own n (with_effect effect) (λ a. refl) (on page) (h page)
    by false = h page

page-below : (n : ℕ) (len : Lengths) (effect : Effect) (page : ℕ) (on : Pages) → OwnBelow n on → OwnBelow n (page_changed len effect page on)
page-below n len effect page on h = by (alters_at effect (on page))
  where
    changed : Pages
    changed = part_changed len page (page + 1) effect on

    by : (b : Bool) → OwnBelow n (if b then part_changed len page (page + 1) effect on else on)
    by true = around-below n len page (page + 1) (with_effect_on page (page + 1) effect (split_at (page + 1) (split_at page on)))
        (effect-below n page (page + 1) effect (split_at (page + 1) (split_at page on))
        (split-below n (page + 1) (split_at page on) (split-below n page on h)))
    by false = h

pages-below : (n : ℕ) (len : Lengths) (effect : Effect) (from k : ℕ) (on : Pages) → OwnBelow n on → OwnBelow n (pages_changed len effect from k on)
pages-below n len effect from zero on h = h
pages-below n len effect from (suc k) on h =
    pages-below n len effect (from + 1) k (page_changed len effect from on) (page-below n len effect from on h)

room-below : (n k : ℕ) (place : Place) (on : Pages) → OwnBelow n on → OwnBelow n (with_room k place on)
room-below n k Auto on h = h
room-below n k (At a) on h = h
room-below n k (Fixed a) on h = unmap-below n (page_of a) (page_of a + k) on h
room-below n k (NoReplace a) on h = h

set-below : (n p : ℕ) (new : Pages) (on : Areas) → OwnBelow n new → AllBelow n on → AllBelow n (with_at p new on)
set-below n p new on is h q = by (q == p)
  where
    by : (b : Bool) → OwnBelow n (if b then new else on q)
    by true = is
    by false = h q

-- ---- a range moves or grows

over-below : (n : ℕ) (len : Lengths) (at k : ℕ) (on : Pages) → OwnBelow n on → OwnBelow n (joined_over len at k on)
over-below n len at zero on h = h
over-below n len at (suc k) on h = over-below n len (suc at) k (joined_at len at on) (joined-below n len at on h)

moved-below : (n from k m to : ℕ) (on : Pages) → OwnBelow n on → OwnBelow n (moved_range from k m to on)
moved-below n from k m to on h page = by (within to m page)
  where
    by : (b : Bool) → AreaBelow n (if b then option_map (moved_area from to) (on (from + (page - to))) else without_range from (from + k) on page)
    by true = same_own n (moved_area from to) (λ a. refl) (on (from + (page - to))) (h (from + (page - to)))
    by false = without-below n from (from + k) on h page

grown-below : (n past : ℕ) (o : Option Area) (on : Pages) → AreaBelow n o → OwnBelow n on → OwnBelow n (grown_to past o on)
grown-below n past None on is h = h
grown-below n past (Some a) on is h = with-below n (record a { end = address_of past }) on is h

move-below : (n : ℕ) (len : Lengths) (from k to m : ℕ) (on : Pages) → OwnBelow n on → OwnBelow n (after_move len from k to m on)
move-below n len from k to m on h =
    let cleared = after_unmap to (to + m) on in
    let parts = split_at (from + k) (split_at (from + min k m) (split_at from cleared)) in
    let moved = moved_range from k (min k m) to parts in
    let here = moved-below n from k (min k m) to parts (split-below n (from + k) (split_at (from + min k m) (split_at from cleared))
    (split-below n (from + min k m) (split_at from cleared) (split-below n from cleared (unmap-below n to (to + m) on h)))) in
    over-below n len to (suc m) (grown_to (to + m) (moved (to + min k m - 1)) moved)
    (grown-below n (to + m) (moved (to + min k m - 1)) moved (here (to + min k m - 1)) here)

resize-below : (n : ℕ) (len : Lengths) (from k m : ℕ) (on : Pages) → OwnBelow n on → OwnBelow n (after_resize len from k m on)
resize-below n len from k m on h = by (nat_lt m k) (nat_lt k m)
  where
    grow : (o : Option Area) → AreaBelow n o → OwnBelow n (after_grow len (from + m) o on)
    grow None is = h
    grow (Some a) is = around-below n len (first_of a) (from + m) (grown_to (from + m) (Some a) on) (grown-below n (from + m) (Some a) on is h)

    by : (b c : Bool) → OwnBelow n
        (if b then after_unmap (from + m) (from + k) on else (if c then after_grow len (from + m) (on (from + k - 1)) on else on))
    by true c = unmap-below n (from + m) (from + k) on h
    by false true = grow (on (from + k - 1)) (h (from + k - 1))
    by false false = h

left-page-below : (n : ℕ) (len : Lengths) (p page : ℕ) (o : Option Area) (on : Pages) → OwnBelow n on → OwnBelow n (page_left len p page o on)
left-page-below n len p page None on h = h
left-page-below n len p page (Some area) on h = map-below n len p page (page + 1) area.prot (unlocked area.flags) on h

left-below-all : (n : ℕ) (len : Lengths) (p : ℕ) (was : Pages) (from k : ℕ) (on : Pages) → OwnBelow n on
    → OwnBelow n (pages_left len p was from k on)
left-below-all n len p was from zero on h = h
left-below-all n len p was from (suc k) on h =
    left-below-all n len p was (from + 1) k (page_left len p from (was from) on) (left-page-below n len p from (was from) on h)

again-below : (n : ℕ) (len : Lengths) (p : ℕ) (was : Pages) (from k : ℕ) (stays : Bool) (on : Pages) → OwnBelow n on
    → OwnBelow n (with_old_range len p was from k stays on)
again-below n len p was from k false on h = h
again-below n len p was from k true on h = left-below-all n len p was from k on h

remap-below : (n : ℕ) (len : Lengths) (p from k to m : ℕ) (stays : Bool) (on : Pages) → OwnBelow n on
    → OwnBelow n (after_mremap len p from k to m stays on)
remap-below n len p from k to m stays on h = by (to == from)
  where
    by : (b : Bool) → OwnBelow n
        (if b then after_resize len from k m on else with_old_range len p on from k stays (after_move len from k to m on))
    by true = resize-below n len from k m on h
    by false = again-below n len p on from k stays (after_move len from k to m on) (move-below n len from k to m on h)

next-below : (n : ℕ) (long : Lengths) (on : Areas) (w : World) (command : Command) (answer : Answer) → AllBelow n on →
    AllBelow n (next_areas long on w command answer)
next-below n long on w (Spawn p) Done h = set-below n p none_on on (λ page. tt) h
next-below n long on w (Exit p) Done h = set-below n p none_on on (λ page. tt) h
next-below n long on w (Mmap p len prot place) (MapAt a) h =
    set-below n p (after_map long p (page_of a) (page_of a + pages_of len) prot no_flags (with_room (pages_of len) place (on p))) on
    (map-below n long p (page_of a) (page_of a + pages_of len) prot no_flags (with_room (pages_of len) place (on p))
    (room-below n (pages_of len) place (on p) (h p))) h
next-below n long on w (Munmap p a len) Done h =
    set-below n p (after_unmap (page_of a) (page_of a + pages_of len) (on p)) on (unmap-below n (page_of a) (page_of a + pages_of len) (on p) (h p)) h
next-below n long on w (Mprotect p a len prot) Done h =
    set-below n p (areas_to_hole long w p (page_of a) (pages_of len) prot (on p)) on
    (pages-below n long (to_prot prot) (page_of a) (pages_to_hole (pages w p) (page_of a) (pages_of len)) (on p) (h p)) h
next-below n long on w (Mprotect p a len prot) (Refused Enomem) h = by (wraps a len)
  where
    by : (b : Bool) → AllBelow n (if b then on else with_at p (areas_to_hole long w p (page_of a) (pages_of len) prot (on p)) on)
    by true = h
    by false = set-below n p (areas_to_hole long w p (page_of a) (pages_of len) prot (on p)) on
        (pages-below n long (to_prot prot) (page_of a) (pages_to_hole (pages w p) (page_of a) (pages_of len)) (on p) (h p)) h
next-below n long on w (Mremap p a old new mode) (MapAt b) h =
    set-below n p (after_mremap long p (page_of a) (pages_of old) (page_of b) (pages_of new) (leaves_old mode) (on p)) on
    (remap-below n long p (page_of a) (pages_of old) (page_of b) (pages_of new) (leaves_old mode) (on p) (h p)) h
next-below n long on w command answer h = h

-- ---- anon_vmas

abbrev ChainBelow : ℕ → Option AnonVma → Type 0
ChainBelow n o = IfSome o (λ (x : AnonVma). AllByRecursion (λ v. v < n) x.chain)

-- whatever an area or a chain says has been made
pub record AreMade (r : Rmap) : Type 0 where
  pub owns : AllBelow r.anons.next r.areas
  pub chains : (v : ℕ) → ChainBelow r.anons.next (r.anons.anon v)

more_chain : (n n' : ℕ) (o : Option AnonVma) → n ≤ n' → ChainBelow n o → ChainBelow n' o
more_chain n n' None le h = tt
more_chain n n' (Some x) le h = all_from (λ v. v < n) (λ v. v < n') (λ v lt. omega (arith, le, lt)) x.chain h

-- ---- prepare

-- so it is afterwards, with as many made at least
pub record Makes (old new : Rmap) : Type 0 where
  pub made : AreMade new
  pub more : old.anons.next ≤ new.anons.next

loan-below : (n : ℕ) (len : Lengths) (area : Area) (near : Option Area) → AreaBelow n near → IsBelow n (loan_of len area near)
loan-below n len area None h = tt
loan-below n len area (Some near) h = by (can_lend area near (len near.anon))
  where
    by : (b : Bool) → IsBelow n (if b then near.anon else None)
    by true = h
    by false = tt

page-made : (p page : ℕ) (r : Rmap) → AreMade r → Makes r (prepare_page p page r)
page-made p page r h = by (on page) (h.owns p page)
  where
    on : Pages
    on = r.areas p

    len : Lengths
    len = chain_length r.anons

    n : ℕ
    n = r.anons.next

    same : Makes r (record { areas = with_at p (r.areas p) r.areas; anons = r.anons; homes = r.homes; items = r.items })
    same = record { made = record { owns = set-below r.anons.next p (r.areas p) r.areas (h.owns p) h.owns; chains = h.chains }; more = omega arith }

    root-chains : (v : ℕ) (b : Bool) → (v == r.anons.next) ≡ b
        → ChainBelow (suc r.anons.next) (if b then Some (root_anon r.anons.next) else r.anons.anon v)
    root-chains v true is = (omega arith, tt)
    root-chains v false is = more_chain r.anons.next (suc r.anons.next) (r.anons.anon v) (omega arith) (h.chains v)

    at : (area : Area) (b : Bool) (l : Option ℕ) → IsBelow r.anons.next l
        → Makes r (record {
          areas = with_at p (if b then r.areas p else with_area (record area { anon = Some (unwrap_or l r.anons.next) }) (r.areas p)) r.areas;
          anons = if not b && not (is_some l) then with_root r.anons else r.anons;
          homes = r.homes;
          items = r.items;
        })
    at area true l is = same
    at area false (Some v) is = record {
      made = record {
        owns = set-below r.anons.next p (with_area (record area { anon = Some v }) (r.areas p)) r.areas
            (with-below r.anons.next (record area { anon = Some v }) (r.areas p) is (h.owns p)) h.owns;
        chains = h.chains;
      };
      more = omega arith;
    }
    at area false None is = record {
      made = record {
        owns = set-below (suc r.anons.next) p (with_area (record area { anon = Some r.anons.next }) (r.areas p)) r.areas
            (with-below (suc r.anons.next) (record area { anon = Some r.anons.next }) (r.areas p) (omega arith)
            (λ o. more_area r.anons.next (suc r.anons.next) (r.areas p o) (omega arith) (h.owns p o)))
            (λ q o. more_area r.anons.next (suc r.anons.next) (r.areas q o) (omega arith) (h.owns q o));
        chains = λ v. root-chains v (v == r.anons.next) refl;
      };
      more = omega arith;
    }

    by : (o : Option Area) → AreaBelow r.anons.next o
        → Makes r (record {
          areas = with_at p (with_anon (chain_length r.anons) r.anons.next o (r.areas p)) r.areas;
          anons = if makes_anon (chain_length r.anons) (r.areas p) o then with_root r.anons else r.anons;
          homes = r.homes;
          items = r.items;
        })
    by None is = same
    by (Some area) is = at area (is_some area.anon) (loan_beside (chain_length r.anons) (r.areas p) area)
        (either r.anons.next (loan_of (chain_length r.anons) area (r.areas p (past_of area)))
        (loan_of (chain_length r.anons) area (r.areas p (first_of area - 1)))
        (loan-below r.anons.next (chain_length r.anons) area (r.areas p (past_of area)) (h.owns p (past_of area)))
        (loan-below r.anons.next (chain_length r.anons) area (r.areas p (first_of area - 1)) (h.owns p (first_of area - 1))))

-- homes say nothing of them
home-made : (r r' : Rmap) (f : ℕ) (k : Key) → Makes r r' → Makes r (at_home f k r')
home-made r r' f k h = record { made = record { owns = h.made.owns; chains = h.made.chains }; more = h.more }

-- nothing was made
none-made : (r : Rmap) → AreMade r → Makes r r
none-made r h = record { made = h; more = omega arith }

note-made : (l : Ledger) (note : Note) (r : Rmap) → AreMade r → Makes r (rmap_after_note l note r)
note-made l (New p a f) r h = home-made r (prepare_page p (page_of a) r) f (p, page_of a) (page-made p (page_of a) r h)
note-made l (Copied p a f) r h = home-made r r f (p, page_of a) (none-made r h)
note-made l (Loaded s f) r h = record { made = record { owns = h.owns; chains = h.chains }; more = omega arith }
note-made l (Shared f) r h = record { made = record { owns = h.owns; chains = h.chains }; more = omega arith }
note-made l (Joined p a f) r h = record { made = record { owns = h.owns; chains = h.chains }; more = omega arith }
note-made l (Moved from to) r h = record { made = record { owns = h.owns; chains = h.chains }; more = omega arith }
note-made l note r h = none-made r h

use-made : (write : Bool) (k : Key) (o : Option Entry) (r : Rmap) → AreMade r → Makes r (rmap_after_use write k o r)
use-made true k (Some (InFrame f seen)) r h = home-made r r f k (none-made r h)
use-made write k o r h = none-made r h

event-made : (l : Ledger) (e : Event) (r : Rmap) → AreMade r → Makes r (rmap_after l e r)
event-made l (Noted note) r h = note-made l note r h
event-made l (Used write k) r h = use-made write k (entry l k) r h
event-made l (FlagSet p from n flag set) r h = record {
  made = record {
    owns = set-below r.anons.next p (pages_changed (chain_length r.anons) (to_flag flag set) from n (r.areas p)) r.areas
        (pages-below r.anons.next (chain_length r.anons) (to_flag flag set) from n (r.areas p) (h.owns p)) h.owns;
    chains = h.chains;
  };
  more = omega arith;
}
event-made l e r h = none-made r h

all-made : (l : Ledger) (es : List Event) (r : Rmap) → AreMade r → Makes r (rmap_after_all l es r)
all-made l [] r h = none-made r h
all-made l (e ∷ es) r h =
    let first = event-made l e r h in
    let rest = all-made (after l e) es (rmap_after l e r) first.made in
    let a = first.more in
    let b = rest.more in
    record { made = rest.made; more = omega (arith, a, b) }

-- ---- a step

left-below : (anons left : Anons) (on : Areas) (n : ℕ) → AreLeft anons on left → ((v : ℕ) → ChainBelow n (anons.anon v)) → (v : ℕ)
    → ChainBelow n (left.anon v)
left-below anons left on n is h v = by (left.anon v) refl
  where
    by : (o : Option AnonVma) → left.anon v ≡ o → ChainBelow n o
    by None e = tt
    by (Some x) e = subst (ChainBelow n) (sym (is.linked v (is.there v (ap is_some e))) ∙ e) (h v)

chain-below : (anons : Anons) (n : ℕ) (own : Option ℕ) → ((v : ℕ) → ChainBelow n (anons.anon v)) → AllByRecursion (λ v. v < n) (chain_by anons own)
chain-below anons n None h = tt
chain-below anons n (Some v) h = by (anons.anon v) (h v)
  where
    by : (o : Option AnonVma) → ChainBelow n o → AllByRecursion (λ v. v < n) (option_map_or (λ (x : AnonVma). x.chain) o [])
    by None h = tt
    by (Some x) h = h

plain-makes : (r later next : Rmap) (w : World) (command : Command) (answer : Answer) → Makes r later
    → AreNext later w command answer next → Makes r next
plain-makes r later next w command answer makes is =
    let more = makes.more in
    let same = is.anons.next in
    record {
      made = record {
        owns = subst (λ n. AllBelow n next.areas) (sym same) (subst (AllBelow later.anons.next) (sym is.areas)
            (next-below later.anons.next (chain_length later.anons) later.areas w command answer makes.made.owns));
        chains = subst (λ n. (v : ℕ) → ChainBelow n (next.anons.anon v)) (sym same)
            (left-below later.anons next.anons next.areas later.anons.next is.anons makes.made.chains);
      };
      more = omega (arith, more, same);
    }

-- what is in a chain is as small as all that is
in_all : (P : ℕ → Type 0) (v : ℕ) (xs : List ℕ) → AllByRecursion P xs → is_in v xs ≡ true → P v
in_all P v [] h is = absurd (false≢true is)
in_all P v (x ∷ xs) h is = by (v == x) refl is (in_all P v xs h.1)
  where
    by : (b : Bool) → (v == x) ≡ b → (b || is_in v xs) ≡ true → (is_in v xs ≡ true → P v) → P v
    by true e is rest = let same : v ≡ x = grind (arith, nat_tests, e) in subst P (sym same) h.0
    by false e is rest = rest is

all_and : (P : ℕ → Type 0) (xs : List ℕ) (x : ℕ) → AllByRecursion P xs → P x → AllByRecursion P (xs ++ x ∷ [])
all_and P [] x h p = (p, tt)
all_and P (y ∷ xs) x h p = (h.0, all_and P xs x h.1 p)

goes-makes : (own : Option ℕ) (q : ℕ) (area : Area) (r next : Rmap) → AreMade r → GoesBy own q area r next → Makes r next
goes-makes None q area r next h goes = subst (Makes r) (sym goes) (record {
  made = record {
    owns = set-below r.anons.next q (with_area (record (forked_area q area) { anon = None }) (r.areas q)) r.areas
        (with-below r.anons.next (record (forked_area q area) { anon = None }) (r.areas q) tt (h.owns q)) h.owns;
    chains = h.chains;
  };
  more = omega arith;
})
goes-makes (Some own) q area r next h (None, none, goes) = subst (Makes r) (sym goes) (record {
  made = record {
    owns = set-below (suc n) q (with_area (record (forked_area q area) { anon = Some n }) (r.areas q)) r.areas
        (with-below (suc n) (record (forked_area q area) { anon = Some n }) (r.areas q) (omega arith)
        (λ o. more_area n (suc n) (r.areas q o) (omega arith) (h.owns q o)))
        (λ p o. more_area n (suc n) (r.areas p o) (omega arith) (h.owns p o));
    chains = λ v. at v (v == n);
  };
  more = omega arith;
})
  where
    n : ℕ
    n = r.anons.next

    chain : AllByRecursion (λ v. v < suc r.anons.next) (chain_by r.anons (Some own) ++ r.anons.next ∷ [])
    chain = all_and (λ v. v < suc r.anons.next) (chain_by r.anons (Some own)) r.anons.next
        (all_from (λ v. v < r.anons.next) (λ v. v < suc r.anons.next) (λ v lt. omega (arith, lt)) (chain_by r.anons (Some own))
        (chain-below r.anons r.anons.next (Some own) h.chains)) (omega arith)

    at : (v : ℕ) (b : Bool) → ChainBelow (suc r.anons.next) (if b then Some
        (record { root = root_of r.anons own; parent = own; chain = chain_by r.anons (Some own) ++ r.anons.next ∷ [] }) else r.anons.anon v)
    at v true = chain
    at v false = more_chain r.anons.next (suc r.anons.next) (r.anons.anon v) (omega arith) (h.chains v)
goes-makes (Some own) q area r next h (Some u, one, goes) = subst (Makes r) (sym goes) (record {
  made = record {
    owns = set-below r.anons.next q (with_area (record (forked_area q area) { anon = Some u }) (r.areas q)) r.areas
        (with-below r.anons.next (record (forked_area q area) { anon = Some u }) (r.areas q)
        (in_all (λ v. v < r.anons.next) u (chain_by r.anons (Some own)) chain one.0) (h.owns q)) h.owns;
    chains = λ v. at v (v == u);
  };
  more = omega arith;
})
  where
    chain : AllByRecursion (λ v. v < r.anons.next) (chain_by r.anons (Some own))
    chain = chain-below r.anons r.anons.next (Some own) h.chains

    at : (v : ℕ) (b : Bool)
        → ChainBelow r.anons.next (if b then Some (record {
          root = root_of r.anons u;
          parent = option_map_or (λ (anon : AnonVma). anon.parent)
              (r.anons.anon u) u;
          chain = chain_by r.anons (Some own);
        }) else r.anons.anon v)
    at v true = chain
    at v false = h.chains v

over-makes : (q : ℕ) (areas : List Area) (r next : Rmap) → AreMade r → GoOver q areas r next → Makes r next
over-makes q [] r next h goes = subst (Makes r) (sym goes) (none-made r h)
over-makes q (area ∷ areas) r next h (mid, first, later) =
    let one = goes-makes (own_to_fork area) q area r mid h first in
    let rest = over-makes q areas mid next one.made later in
    let a = one.more in
    let b = rest.more in
    record { made = rest.made; more = omega (arith, a, b) }

fork-makes : (p q : ℕ) (r next : Rmap) → AreMade r → AreForked p q r next → Makes r next
fork-makes p q r next h (areas, rise, on, goes) =
    let start = record r { areas = with_at q none_on r.areas } in
    let all = over-makes q (areas_to_fork areas) start next
    (record { owns = set-below r.anons.next q none_on r.areas (λ page. tt) h.owns; chains = h.chains }) goes in
    record { made = all.made; more = all.more }

-- made after one that made some
makes-then : (r mid next : Rmap) → Makes r mid → Makes mid next → Makes r next
makes-then r mid next a b = let x = a.more in let y = b.more in record { made = b.made; more = omega (arith, x, y) }

pub step-makes : (m : Setting) (old : State) (command : Command) (reply : Reply) (new : State) → AreMade (rmap_of old)
    → IsStep m old command reply new → Makes (rmap_of old) (rmap_of new)
step-makes m old command reply new h step = by (next-cases later old.world command reply.answer (rmap_of new) step.rmap)
  where
    later : Rmap
    later = rmap_after_all old.ledger step.events (rmap_of old)

    makes : Makes (rmap_of old) later
    makes = all-made old.ledger step.events (rmap_of old) h

    by : IsPlain later old.world command reply.answer (rmap_of new) ⊎ IsFork later command reply.answer (rmap_of new)
        → Makes (rmap_of old) (rmap_of new)
    by (inl plain) = plain-makes (rmap_of old) later (rmap_of new) old.world command reply.answer makes plain.is
    by (inr fork) = makes-then (rmap_of old) later (rmap_of new) makes (fork-makes fork.parent fork.child later (rmap_of new) makes.made fork.forked)

pub run-makes : (m : Setting) (old : State) (es : List Exchange) (new : State) → AreMade (rmap_of old) → IsRun m old es new
    → old.anons.next ≤ new.anons.next
run-makes m old [] new h run = let same : new.anons.next ≡ old.anons.next = ap (λ (s : State). s.anons.next) run in omega (arith, same)
run-makes m old (e ∷ es) new h run =
    let one = step-makes m old e.command e.reply run.0 h run.1 in
    let rest = run-makes m run.0 es new one.made run.2 in
    let less = one.more in
    omega (arith, less, rest)

-- ---- rows

own-wide : (n : ℕ) (own : Option ℕ) → IsWide n → IsBelow n own → IfSome own IsWide
own-wide n None wide h = tt
own-wide n (Some v) wide h = omega (arith, wide, h)

-- the rows of laid areas say numbers of 64 bits where those of the anon_vmas are
pub rows-wide : (r : Rmap) (p : ℕ) (rows : List Row) → AreMade r → AreLaid (r.areas p) → IsWide r.anons.next → AreRowsOf r.anons (r.areas p) rows
    → AllByRecursion IsWideRow rows
rows-wide r p rows h laid wide is =
    let all : List Area = is.0 in
    subst (AllByRecursion IsWideRow) (sym is.1) (each is.0 (all_from (λ (a : Area). pages_in (Some all) (first_of a) ≡ Some a)
    (λ (a : Area). r.areas p (first_of a) ≡ Some a) (λ a on. sym (is.3 (first_of a)) ∙ on) is.0 (on_first is.0 is.2)))
  where
    one : (a : Area) → r.areas p (first_of a) ≡ Some a → IsWideRow (area_row r.anons a)
    one a on = (
      let small = (laid.whole (first_of a) a on).small in omega (arith, small),
      own-wide r.anons.next a.anon wide (subst (AreaBelow r.anons.next) on (h.owns p (first_of a))),
      all_from (λ v. v < r.anons.next) IsWide (λ v lt. omega (arith, wide, lt)) (chain_by r.anons a.anon)
          (chain-below r.anons r.anons.next a.anon h.chains),
    )

    each : (areas : List Area) → AllByRecursion (λ (a : Area). r.areas p (first_of a) ≡ Some a) areas
        → AllByRecursion IsWideRow (map (area_row r.anons) areas)
    each [] on = tt
    each (a ∷ areas) on = (one a on.0, each areas on.1)
