-- What a read shows of a page is what the page claims.
use Rattle.std.proofs.Common.{◌≡◌, ℕ, zero, suc, ◌+◌, ◌^◌, ◌-◌, ◌*◌, ◌/◌, ◌%◌, ◌<◌, ◌≤◌, false, List, [], ◌∷◌, ◌++◌, length, get_or, take, drop, replicate, Option, Some, None, sym, ap, subst, ◌∙◌, arith}
use Rattle.std.proofs.lemmas.List.{get_or-take, get_or-drop, get_or-replicate, length-take-le, length-drop, length-replicate}
use Rattle.std.specs.Prelude.{IfSome, option_and_then}
use Rattle.std.specs.List.{AllByRecursion}
use Rattle.av_trace.specs.declared.note.Note.{Note}
use Rattle.av_plain.specs.Device.{Device, IsSameDevice}
use Rattle.av_plain.specs.World.{Process, Page, pages, byte_at, Shows}
use Rattle.av_plain.specs.Event.{after_all}
use Rattle.av_plain.specs.Access.{page_events}
use Rattle.av_plain.specs.Stands.{IsKept}
use Rattle.av_plain.specs.World.{Holds}
use Rattle.av_plain.specs.Transcript.{State}
use Rattle.av_mem.specs.declared.mem.Mem.{Mem}
use Rattle.av_fault.specs.declared.fault.Touched.TheVariants.{Ready, Zeros}
use Rattle.av_mem.specs.Mem.{view}
use Rattle.av_fault.specs.Fault.{IsTouched}
use Rattle.av_access.specs.Page.{IsPageRead}
use Rattle.av_access.proofs.PageStep.{loaded, read_served}

held_byte : (o : Option Page) (at : ℕ → ℕ) (i : ℕ) → i < 4096 → Holds o at → IfSome (option_and_then (λ (p : Page). p.bytes i) o)
    (λ claimed. claimed ≡ at i)
held_byte None at i below h = tt
held_byte (Some p) at i below h = flip (p.bytes i) (h i below)
  where
    flip : (claim : Option ℕ) → IfSome claim (λ b. at i ≡ b) → IfSome claim (λ claimed. claimed ≡ at i)
    flip None h = tt
    flip (Some b) h = sym h

-- a piece of the bytes that hold a page
shown_from : (q : Process) (page at : ℕ) (bytes : ℕ → ℕ) (piece : List ℕ) → Holds (q page) bytes → at + length piece ≤ 4096 →
    ((j : ℕ) → j < length piece → get_or piece j 0 ≡ bytes (at + j)) → Shows q (4096 * page + at) piece
shown_from q page at bytes [] h fits same = tt
shown_from q page at bytes (b ∷ piece) h fits same = (
  subst (λ x. IfSome (byte_at q (4096 * page + at)) (λ claimed. claimed ≡ x)) (sym (same 0 (omega arith) ∙ ap bytes (from_zero at)))
      (subst (λ o. IfSome o (λ claimed. claimed ≡ bytes at)) (λ i. option_and_then (λ (p : Page). p.bytes (sym place i)) (q (sym number i)))
      (held_byte (q page) bytes at (omega (arith, fits)) h)),
  subst (λ a. Shows q a piece) (next (4096 * page) at) (shown_from q page (at + 1) bytes piece h (omega (arith, fits))
      (λ j below. same (suc j) (omega (arith, below)) ∙ ap bytes (shifted at j))),
)
  where
    from_zero : (n : ℕ) → n + 0 ≡ n
    from_zero n = omega arith

    next : (a n : ℕ) → a + (n + 1) ≡ a + n + 1
    next a n = omega arith

    shifted : (n j : ℕ) → n + suc j ≡ n + 1 + j
    shifted n j = omega arith

    place : (4096 * page + at) % 4096 ≡ at
    place = omega (arith, fits)

    number : (4096 * page + at) / 4096 ≡ page
    number = omega (arith, fits)

all_zeros : (n : ℕ) → AllByRecursion (λ b. b < 2 ^ 8) (replicate n 0)
all_zeros zero = tt
all_zeros (suc n) = (omega arith, all_zeros n)

module _ {d d' : Device} (s : State) (new : Mem) (p page at n : ℕ) (before now : List Note) (fits : at + n ≤ 4096) (same : IsSameDevice d d') where
  -- from a frame's bytes
  pub frame_shown : (f : ℕ) (bytes shown shown' : List ℕ) (t : IsTouched d d' s new false (p, page) before now (Ready f)) → length bytes ≡ 4096 →
      ((i : ℕ) → get_or bytes i 0 ≡ (view new).bytes f i)
      → shown' ≡ shown ++ take (at + n - at) (drop at bytes) → AllByRecursion (λ b. b < 2 ^ 8) (take (at + n - at) (drop at bytes)) →
      IsPageRead d d' s new p page at n before now shown shown' None
  frame_shown f bytes shown shown' t long are is below =
      let l = after_all s.ledger (page_events false (p, page) t.added None) in
      let holds : Holds (pages (loaded d s new p page t.added) p page) ((view new).bytes f) =
      subst (λ e. IsKept (view new) d' l e (pages (loaded d s new p page t.added) p page)) t.ready.0 (t.served.serves.held.bytes.kept p page) in
      let size : length (take (at + n - at) (drop at bytes)) ≡ n = length-take-le (at + n - at) (drop at bytes)
      (enough (length (drop at bytes)) (length-drop at bytes) long) ∙ rest in
      read_served s new p page at n before now shown shown' same t.added t.noted.notes t.touches t.served t.noted.failures (
        take (at + n - at) (drop at bytes),
        is,
        size,
        shown_from (pages (loaded d s new p page t.added) p) page at ((view new).bytes f) (take (at + n - at) (drop at bytes)) holds
            (omega (arith, size, fits))
            (λ j below. get_or-take (at + n - at) (drop at bytes) j 0 (omega (arith, size, below)) ∙ get_or-drop at bytes j 0 ∙ are (at + j)),
        below,
      )
    where
      rest : at + n - at ≡ n
      rest = omega arith

      enough : (k : ℕ) {m : ℕ} → k ≡ m - at → m ≡ 4096 → at + n - at ≤ k
      enough k e long = omega (arith, e, long, fits)

  -- from the page of zeros
  pub zeros_shown : (shown shown' : List ℕ) (t : IsTouched d d' s new false (p, page) before now Zeros) → shown' ≡ shown ++ replicate n 0 →
      IsPageRead d d' s new p page at n before now shown shown' None
  zeros_shown shown shown' t is =
      let l = after_all s.ledger (page_events false (p, page) t.added None) in
      let holds : Holds (pages (loaded d s new p page t.added) p page) (λ _. 0) =
      subst (λ e. IsKept (view new) d' l e (pages (loaded d s new p page t.added) p page)) t.ready.0 (t.served.serves.held.bytes.kept p page) in
      let size : length (replicate {A = ℕ} n 0) ≡ n = length-replicate n 0 in
      read_served s new p page at n before now shown shown' same t.added t.noted.notes t.touches t.served t.noted.failures (
        replicate n 0,
        is,
        size,
        shown_from (pages (loaded d s new p page t.added) p) page at (λ _. 0) (replicate n 0) holds (omega (arith, size, fits))
            (λ j below. get_or-replicate n j 0 0 (omega (arith, size, below))),
        all_zeros n,
      )
