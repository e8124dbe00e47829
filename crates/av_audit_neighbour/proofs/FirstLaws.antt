-- Which page tells what a frame holds: it is so of all pages, once it is of each.
use Rattle.std.proofs.Common.{◌≡◌, ◌⊎◌, inl, inr, ℕ, ◌<◌, Bool, true, false, cond, ◌==◌, List, []}
use Rattle.std.proofs.Common.{◌∷◌, map, length, Option, Some, None, is_some, not, refl, sym, ap, subst, ◌∙◌, arith}
use Rattle.std.specs.Prelude.{IsSomeAnd, option_map, slice_index, unwrap_or}
use Rattle.std.proofs.lemmas.Bool.Decides.{nat_tests}
use Rattle.std.specs.BTreeMap.{get, is_at}
use Rattle.std.specs.FinMap.Entries.{find}
use Rattle.std.specs.List.{AllByRecursion}
use Rattle.std.specs.Ordering.{nat_cmp}
use Rattle.av_base.specs.Keys.{Key, key_cmp, same_key}
use Rattle.av_base.specs.Page.{page_size}
use Rattle.av_base.proofs.Keys.{same_key-is}
use Rattle.av_plain.specs.Ledger.{Entry, InFrame, Ledger, entry, names_frame}
use Rattle.av_plain.specs.Merge.{FrameBytes, HoldClaims}
use Rattle.av_plain.specs.Mremap.{marks_at}
use Rattle.av_plain.specs.World.{Holds, Page, Process, World, pages}
use Rattle.av_audit_world.specs.Memories.{IsWorld}
use Rattle.av_audit_world.specs.Space.{marks_of}
use Rattle.av_audit_world.specs.declared.memories.Memories.{Memories}
use Rattle.av_audit_ranges.specs.declared.marks.Marks.{Marks}
use Rattle.av_audit_neighbour.specs.First.{AreTrue, Fits, FramePages, HasTold, IsTold, IsToldFor, StillTell, TellsFrame, same_page}
use Rattle.av_audit_neighbour.specs.Held.{bytes_of_page, held_by}
use Rattle.av_audit_neighbour.proofs.HeldLaws.{all-pass, bytes-hold, each-passes, held-bytes, itself, same-number}

differ : {A : Type 0} → true ≡ false → A
differ e = absurd (not e)
  where
    not : true ≡ false → ⊥
    not e = cc

-- ---- one frame

pub same-page-itself : (memories : Memories) (k : Key) → same_page memories k k ≡ true
same-page-itself memories k = all-pass (λ i. slice_index (bytes_of_page memories k) i == slice_index (bytes_of_page memories k) i) 0 page_size
    (λ i low high. itself (slice_index (bytes_of_page memories k) i))

some-is : {A : Type 0} {x y : A} → Some x ≡ Some y → x ≡ y
some-is e = cc

pub at-number : (f g : ℕ) → is_at (nat_cmp f) g ≡ (g == f)
at-number f g = grind (arith, nat_tests)

-- where none tells, this page does from now on
pub tells-first : (memories : Memories) (old new : FramePages) (f : ℕ) (k : Key) → get nat_cmp old f ≡ None
    → ((g : ℕ) → get nat_cmp new g ≡ cond (is_at (nat_cmp f) g) (Some k) (get nat_cmp old g)) → IsToldFor memories old f k new
tells-first memories old new f k none at = record {
  first = k;
  tells = is f ∙ ap (λ b. cond b (Some k) (get nat_cmp old f)) (itself f);
  same = same-page-itself memories k;
  still = λ g q h. is g ∙ still g q h (g == f) refl;
  only = λ g q h. only g q (g == f) refl (sym (is g) ∙ h);
}
  where
    is : (g : ℕ) → get nat_cmp new g ≡ cond (g == f) (Some k) (get nat_cmp old g)
    is g = at g ∙ ap (λ b. cond b (Some k) (get nat_cmp old g)) (at-number f g)

    none-some : {q : Key} → None ≡ Some q → ⊥
    none-some e = cc

    still : (g : ℕ) (q : Key) → get nat_cmp old g ≡ Some q → (b : Bool) → (g == f) ≡ b → cond b (Some k) (get nat_cmp old g) ≡ Some q
    still g q h true e = absurd (none-some (sym none ∙ ap (get nat_cmp old) (sym (same-number g f e)) ∙ h))
    still g q h false e = h

    only : (g : ℕ) (q : Key) (b : Bool) → (g == f) ≡ b → cond b (Some k) (get nat_cmp old g) ≡ Some q
        → (get nat_cmp old g ≡ Some q) ⊎ ((g ≡ f) × (q ≡ k))
    only g q true e h = inr (same-number g f e, sym (some-is h))
    only g q false e h = inl h

-- where one does, all stays
pub tells-again : (memories : Memories) (old new : FramePages) (f : ℕ) (k first : Key) (same : Bool) → get nat_cmp old f ≡ Some first → new ≡ old
    → same ≡ same_page memories first k → TellsFrame memories old f k same new
tells-again memories old new f k first true is stays e = record {
  first = first;
  tells = ap (λ (m : FramePages). get nat_cmp m f) stays ∙ is;
  same = sym e;
  still = λ g q h. ap (λ (m : FramePages). get nat_cmp m g) stays ∙ h;
  only = λ g q h. inl (ap (λ (m : FramePages). get nat_cmp m g) (sym stays) ∙ h);
}
tells-again memories old new f k first false is stays e = (first, is, sym e)

-- ---- one page

names-none : (l : Ledger) (k : Key) (f : ℕ) (o : Option Entry) → entry l k ≡ o → (IsSomeAnd o (λ e. names_frame f e ≡ true) → ⊥)
    → IsSomeAnd (entry l k) (λ e. names_frame f e ≡ true) → ⊥
names-none l k f o is none h = none (subst (λ o. IsSomeAnd o (λ e. names_frame f e ≡ true)) is h)

-- an entry that names no frame, or at a page that isn't mapped, asks nothing
pub told-nothing : (w : World) (l : Ledger) (memories : Memories) (told : FramePages) (k : Key)
    → ((f : ℕ) → IsSomeAnd (entry l k) (λ e. names_frame f e ≡ true) → is_some (pages w k.0 k.1) ≡ true → ⊥)
    → HasTold w l memories told k told
told-nothing w l memories told k none = record {
  fits = λ f names there. absurd (none f names there);
  still = λ f q h. h;
  true_yet = λ held holds are. are;
}

pub no-names : (o : Option Entry) → ((f : ℕ) → IsSomeAnd o (λ e. names_frame f e ≡ true) → ⊥) → (l : Ledger) (k : Key) → entry l k ≡ o
    → (f : ℕ) → IsSomeAnd (entry l k) (λ e. names_frame f e ≡ true) → ⊥
no-names o none l k is f h = none f (subst (λ o. IsSomeAnd o (λ e. names_frame f e ≡ true)) is h)

named-is : (l : Ledger) (k : Key) (f g : ℕ) (seen : Bool) → entry l k ≡ Some (InFrame f seen) → IsSomeAnd (entry l k) (λ e. names_frame g e ≡ true) → g ≡ f
named-is l k f g seen is h = same-number g f (subst (λ o. IsSomeAnd o (λ e. names_frame g e ≡ true)) is h)

pub told-frame : (w : World) (l : Ledger) (memories : Memories) (old new : FramePages) (k : Key) (f : ℕ) (seen same : Bool) → IsWorld memories w
    → entry l k ≡ Some (InFrame f seen) → is_some (pages w k.0 k.1) ≡ true → TellsFrame memories old f k same new
    → IsTold w l memories old k same new
told-frame w l memories old new k f seen true at is there h = record {
  fits = λ g names there. (
    h.first,
    ap (get nat_cmp new) (named-is l k f g seen is names) ∙ h.tells,
    bytes-hold memories w k (slice_index (bytes_of_page memories h.first)) at (λ i low. same-number _ _
        (each-passes (λ i. slice_index (bytes_of_page memories h.first) i == slice_index (bytes_of_page memories k) i)
        0 page_size h.same i (omega arith) (omega (arith, low)))),
  );
  still = h.still;
  true_yet = λ held holds are g q tells i low. yet held holds are g q (h.only g q tells) i low;
}
  where
    names : IsSomeAnd (entry l k) (λ e. names_frame f e ≡ true)
    names = subst (λ o. IsSomeAnd o (λ e. names_frame f e ≡ true)) (sym is) (itself f)

    yet : (held : FrameBytes) → HoldClaims w l held → AreTrue memories held old → (g : ℕ) (q : Key)
        → (get nat_cmp old g ≡ Some q) ⊎ ((g ≡ f) × (q ≡ k)) → (i : ℕ) → i < page_size → held g i ≡ slice_index (bytes_of_page memories q) i
    yet held holds are g q (inl was) i low = are g q was i low
    yet held holds are g q (inr now) i low = ap (λ g. held g i) now.0
        ∙ held-bytes memories w k (held f) at there (holds k f names) i low
        ∙ ap (λ q. slice_index (bytes_of_page memories q) i) (sym now.1)
told-frame w l memories old new k f seen false at is there h = λ held holds are.
    let names : IsSomeAnd (entry l k) (λ e. names_frame f e ≡ true) = subst (λ o. IsSomeAnd o (λ e. names_frame f e ≡ true)) (sym is) (itself f) in
    differ (sym (all-pass (λ i. slice_index (bytes_of_page memories h.0) i == slice_index (bytes_of_page memories k) i) 0 page_size
    (λ i low high. let low' : i < page_size = omega (arith, high) in
    ap (λ n. n == slice_index (bytes_of_page memories k) i)
    (sym (are f h.0 h.1 i low') ∙ held-bytes memories w k (held f) at there (holds k f names) i low')
    ∙ itself (slice_index (bytes_of_page memories k) i))) ∙ h.2)

-- where a page's marks are there it is mapped
pub marked-there : (q : Process) (page : ℕ) (marks : Option Marks) (none : Bool) → option_map marks_of marks ≡ marks_at q page → is_some marks ≡ not none
    → none ≡ false
    → is_some (q page) ≡ true
marked-there q page None none is e f = differ (sym (e ∙ ap not f))
marked-there q page (Some marks) none is e f = by (q page) is
  where
    by : (o : Option Page) → Some (marks_of marks) ≡ option_map (λ (p : Page). (p.prot, p.flags)) o → is_some o ≡ true
    by None e = cc
    by (Some p) e = refl

pub told-true : (w : World) (l : Ledger) (memories : Memories) (old : FramePages) (k : Key) (new : FramePages) (same : Bool)
    → IsTold w l memories old k same new → same ≡ true → HasTold w l memories old k new
told-true w l memories old k new true h e = h
told-true w l memories old k new false h e = differ (sym e)

pub told-false : (w : World) (l : Ledger) (memories : Memories) (old : FramePages) (k : Key) (new : FramePages) (same : Bool)
    → IsTold w l memories old k same new → same ≡ false → (held : FrameBytes) → HoldClaims w l held → AreTrue memories held old → ⊥
told-false w l memories old k new false h e = h
told-false w l memories old k new true h e = differ e

pub none-left : {A : Type 0} (xs : List A) → length xs < 1 → xs ≡ []
none-left [] h = refl
none-left (x ∷ xs) h = absurd (omega (arith, h))

-- ---- all pages

pub fits-still : (w : World) (l : Ledger) (memories : Memories) (old new : FramePages) (k : Key) → StillTell old new → Fits w l memories old k
    → Fits w l memories new k
fits-still w l memories old new k still h = λ f names there. let x = h f names there in (x.0, still f x.0 x.1, x.2)

-- once those that are left fit, all do
pub record ToldSoFar (w : World) (l : Ledger) (memories : Memories) (told : FramePages) (rest keys : List Key) : Type 0 where
  pub fits : (final : FramePages) → StillTell told final → AllByRecursion (Fits w l memories final) rest → AllByRecursion (Fits w l memories final) keys
  pub are_true : (held : FrameBytes) → HoldClaims w l held → AreTrue memories held told

pub told-first : (w : World) (l : Ledger) (memories : Memories) (told : FramePages) (keys : List Key) → ((f : ℕ) → get nat_cmp told f ≡ None)
    → ToldSoFar w l memories told keys keys
told-first w l memories told keys none = record {
  fits = λ final still all. all;
  are_true = λ held holds f q h i low. absurd (none-some (sym (none f) ∙ h));
}
  where
    none-some : {q : Key} → None ≡ Some q → ⊥
    none-some e = cc

pub told-next : (w : World) (l : Ledger) (memories : Memories) (told new : FramePages) (k : Key) (rest whole keys : List Key) → k ∷ rest ≡ whole
    → ToldSoFar w l memories told whole keys → HasTold w l memories told k new → ToldSoFar w l memories new rest keys
told-next w l memories told new k rest whole keys is so_far h = record {
  fits = λ final still all. so_far.fits final (λ f q x. still f q (h.still f q x))
      (subst (AllByRecursion (Fits w l memories final)) is (fits-still w l memories new final k still h.fits, all));
  are_true = λ held holds. h.true_yet held holds (so_far.are_true held holds);
}

all-found : (P : Key → Type 0) (es : List (Key × Entry)) (k : Key) → AllByRecursion P (map (λ e. e.0) es) → is_some (find key_cmp k es) ≡ true → P k
all-found P [] k all there = cc
all-found P (e ∷ es) k all there = by (same_key k e.0) refl (all-found P es k all.1) there
  where
    by : (b : Bool) → same_key k e.0 ≡ b → (is_some (find key_cmp k es) ≡ true → P k) → is_some (cond b (Some e.1) (find key_cmp k es)) ≡ true → P k
    by true is later there = subst P (sym (same_key-is k e.0 is)) all.0
    by false is later there = later there

-- then what the pages tell holds what they claim
pub told-all : (w : World) (l : Ledger) (memories : Memories) (told : FramePages) (rest keys : List Key) → ToldSoFar w l memories told rest keys → rest ≡ []
    → keys ≡ map (λ e. e.0) l.entries → HoldClaims w l (held_by memories told)
told-all w l memories told rest keys so_far none are k f names =
    by (pages w k.0 k.1) refl (all-found (Fits w l memories told) l.entries k
    (subst (AllByRecursion (Fits w l memories told)) are
    (so_far.fits told (λ f q h. h) (subst (AllByRecursion (Fits w l memories told)) (sym none) tt)))
    (there (entry l k) names) f names)
  where
    there : (o : Option Entry) → IsSomeAnd o (λ e. names_frame f e ≡ true) → is_some o ≡ true
    there None h = absurd h
    there (Some e) h = refl

    by : (o : Option Page) → pages w k.0 k.1 ≡ o
        → (is_some (pages w k.0 k.1) ≡ true → (q : Key) × (get nat_cmp told f ≡ Some q) × Holds (pages w k.0 k.1) (slice_index (bytes_of_page memories q)))
        → Holds (pages w k.0 k.1) (held_by memories told f)
    by None e h = subst (λ o. Holds o (held_by memories told f)) (sym e) tt
    by (Some p) e h = let x = h (ap is_some e) in
        subst (λ (o : Option Key). Holds (pages w k.0 k.1) (slice_index (unwrap_or (option_map (bytes_of_page memories) o) []))) (sym x.1) x.2
