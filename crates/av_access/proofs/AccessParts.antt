-- An access goes on by one page, or stops at it.
use Rattle.std.proofs.Common.{◌≡◌, ◌⊎◌, ℕ, ◌+◌, ◌-◌, ◌*◌, ◌%◌, ◌<◌, ◌≤◌, Bool, true, false, List, [], ◌∷◌, ◌++◌, map, length, Option, Some, None, option_map, inl, inr, zero, suc, refl, sym, ap, subst, ◌∙◌, arith}
use Rattle.std.proofs.lemmas.Bool.Decides.{nat_tests}
use Rattle.std.proofs.lemmas.List.{append_assoc}
use Rattle.av_trace.specs.declared.note.Note.{Note}
use Rattle.std.specs.List.{range_with_len}
use Rattle.av_base.specs.Words.{within}
use Rattle.av_plain.specs.Device.{Device, device_by, setting_of, Calls}
use Rattle.av_plain.specs.World.{Shows, World, is_locked_page, lives, pages}
use Rattle.av_plain.specs.Ledger.{Ledger, Setting}
use Rattle.av_plain.specs.Load.{with_loads}
use Rattle.av_plain.specs.Sound.{IsSound}
use Rattle.av_plain.specs.Event.{Event}
use Rattle.av_plain.specs.Access.{page_events, pages_of_access, after_write, Reads}
use Rattle.av_plain.specs.Fault.{is_allowed}
use Rattle.av_plain.specs.Transcript.{State}
use Rattle.av_mem.specs.declared.mem.Mem.{Mem}
use Rattle.av_fault.specs.declared.fault.Stop.{Stop}
use Rattle.av_mem.specs.Mem.{setting_by, frame_count, Keeps}
use Rattle.av_mem.proofs.KeepsLaws.{keeps-whenever}
use Rattle.av_mem.proofs.MemLaws.{lives_is}
use Rattle.av_plain.proofs.Sound.{lives-loads}
use Rattle.av_step.specs.Step.{IsSteadyFor}
use Rattle.av_access.specs.Page.{IsPageRead, IsPageStep, world_after}
use Rattle.av_access.specs.Access.{HasServed, IsAccess, IsPiece, IsRead, world_served}
use Rattle.av_fault.specs.Fault.{stop_of}
use Rattle.av_access.specs.declared.access.Piece.{Piece}
use Rattle.av_access.proofs.ServedLaws.{LeavesMarks, page-served, served-append, served-more}
use Rattle.av_access.proofs.AccessPages.{touches, touched-one, touched-more}
use Rattle.av_access.proofs.AccessLoads.{AreOwnLoads, IsApart, loads-shows, loads-stored, own-events}
use Rattle.av_access.proofs.AccessBytes.{reads-more, stored_twice, allowed-stored, lives-stored, locked-stored}

-- ---- the memories after a part of an access

allowed-served : (w : World) (write wants : Bool) (p a : ℕ) (bytes : List ℕ) (page : ℕ) →
    is_allowed w wants (p, page) ≡ is_allowed (world_served write p a bytes w) wants (p, page)
allowed-served w true wants p a bytes page = allowed-stored w wants p a bytes page
allowed-served w false wants p a bytes page = refl

-- and which pages are locked
locked-served : (w : World) (write : Bool) (p a : ℕ) (bytes : List ℕ) (q page : ℕ) →
    is_locked_page (pages w q page) ≡ is_locked_page (pages (world_served write p a bytes w) q page)
locked-served w true p a bytes q page = locked-stored w p a bytes q page
locked-served w false p a bytes q page = refl

served_twice : (w : World) (write : Bool) (p a page at : ℕ) (xs ys : List ℕ) → (write ≡ true → 4096 * page + at ≡ a + length xs)
    → world_after write p page at ys None (world_served write p a xs w) ≡ world_served write p a (xs ++ ys) w
served_twice w true p a page at xs ys is = ap (λ b. after_write (after_write w p a xs) p b ys) (is refl) ∙ stored_twice w p a xs ys
served_twice w false p a page at xs ys is = refl

leaves-served : (write : Bool) (p a : ℕ) (bytes : List ℕ) → LeavesMarks p (world_served write p a bytes)
leaves-served write p a bytes = record {
  allowed = λ w wants page. allowed-served w write wants p a bytes page;
  locked = λ w q page. locked-served w write p a bytes q page;
}

-- a page that stopped stores nothing
stop_answer-world : (write : Bool) (p page at : ℕ) (ys : List ℕ) (stop : Stop) (w : World) → world_after write p page at ys (Some stop) w ≡ w
stop_answer-world true p page at ys stop w = refl
stop_answer-world false p page at ys stop w = refl

-- the loads of a page leave what was stored before it
loads-served : (m : Setting) (w : World) (l : Ledger) (es : List Event) (write : Bool) (p a page : ℕ) (xs : List ℕ) →
    (write ≡ true → IsApart a (length xs) page) → AreOwnLoads p page l es →
    with_loads m (world_served write p a xs w) l es ≡ world_served write p a xs (with_loads m w l es)
loads-served m w l es true p a page xs apart own = loads-stored p page a xs (apart refl) m w l es own
loads-served m w l es false p a page xs apart own = refl

-- and the process lives on
page-lives : (w : World) (write : Bool) (p page at : ℕ) (ys : List ℕ) (end : Option Stop) → lives w p ≡ true →
    lives (world_after write p page at ys end w) p ≡ true
page-lives w true p page at ys None h = lives-stored w p (4096 * page + at) ys h
page-lives w true p page at ys (Some stop) h = h
page-lives w false p page at ys end h = h

-- ---- what is there of the memory system

-- over some device that doesn't tell its pages there is a state in which the process lives
pub record Lives (sizes : ℕ → Option ℕ) (calls : Calls) (k : Mem) (p : ℕ) : Type 0 where
  pub state : State
  pub keeps : Keeps (device_by sizes None calls) k state
  pub lives : lives state.world p ≡ true

-- whatever it tells of its calls
pub steady-lives : (sizes : ℕ → Option ℕ) (calls : Calls) (k : Mem) (p : ℕ) → IsSteadyFor sizes p k → Lives sizes calls k p
steady-lives sizes calls k p steady = let h = steady.0 in let keeps = keeps-whenever sizes None h.0 calls k h.1 h.2 in
    record { state = h.1; keeps = keeps; lives = sym (lives_is _ k h.1 keeps p) ∙ steady.1 }

-- so it is after a page
pub page-steady : (sizes sizes' : ℕ → Option ℕ) (n n' : Calls) (s : State) (new : Mem) (write : Bool) (p page at : ℕ) (ys : List ℕ)
    (before now : List Note)
    (end : Option Stop) → lives s.world p ≡ true →
    IsPageStep (device_by sizes None n) (device_by sizes' None n') s new write p page at ys before now end → IsSteadyFor sizes p new
page-steady sizes sizes' n n' s new write p page at ys before now end alive h = (
  (n', h.next, subst (λ sizes. Keeps (device_by sizes None n') new h.next) h.same.sizes h.keeps),
  lives_is (device_by sizes' None n') new h.next h.keeps p ∙ ap (λ w. lives w p) h.world ∙ page-lives
      (with_loads (setting_by (device_by sizes None n) new) s.world s.ledger (page_events write (p, page) h.added (option_map stop_of end))) write p
      page at ys end
      (lives-loads (setting_by (device_by sizes None n) new) s.world s.ledger (page_events write (p, page) h.added (option_map stop_of end)) p
      ∙ alive),
)

-- ---- the access goes on

-- k bytes were served, and a piece begins behind them
record Behind (a k page at : ℕ) : Type 0 where
  is : 4096 * page + at ≡ a + k
  small : at < 4096
  begins : 1 ≤ k → at ≡ 0

module _ {d d' : Device} (s : State) (mid new : Mem) (write : Bool) (p a k page at : ℕ) (xs ys : List ℕ) (before now after : List Note)
    (same : frame_count new ≡ frame_count mid) (behind : Behind a k page at) (h : IsAccess d d' s mid write p a k xs before now None k)
    (long : write ≡ true → length xs ≡ k) where
  -- bytes that were stored before are on no byte of the page
  apart : (n : ℕ) → n ≡ k → IsApart a n page
  apart n is i = outside a n (4096 * page + i) (by k is behind.is behind.begins)
    where
      by : (k : ℕ) → n ≡ k → 4096 * page + at ≡ a + k → (1 ≤ k → at ≡ 0) → (n ≡ 0) ⊎ (a + n ≤ 4096 * page + i)
      by zero none at_is begins = inl none
      by (suc k) some at_is begins = let first : at ≡ 0 = begins (omega arith) in inr (omega (arith, some, at_is, first))

      outside : (a n x : ℕ) → (n ≡ 0) ⊎ (a + n ≤ x) → within a n x ≡ false
      outside a n x (inl none) = grind (arith, nat_tests, none)
      outside a n x (inr past) = grind (arith, nat_tests, past)

  -- what was served before, and this page
  with_page : {d'' : Device} (end : Option Stop) (turns : List (Bool × ℕ)) (both : World → World)
      → pages_of_access write a k ++ (write, page) ∷ [] ≡ turns → IsPageStep d' d'' h.served.next new write p page at ys now after end
      → ((w : World) → world_after write p page at ys end (world_served write p a xs w) ≡ both w)
      → HasServed d d'' s new p turns both before after end page
  unfolding page-served
  with_page end turns both is g composed = served-append s mid new p (pages_of_access write a k) ((write, page) ∷ []) turns (world_served write p a xs)
      (world_after write p page at ys end) both before now after end h.page page same h.served
      (page-served h.served.next new write p page at ys now after end g) is (leaves-served write p a xs)
      (loads-served (setting_by d new) (with_loads (setting_by d mid) s.world s.ledger h.served.events) h.served.next.ledger
      (page_events write (p, page) g.added (option_map stop_of end)) write p a page xs (λ is. apart (length xs) (long is)) own) composed
    where
      own : AreOwnLoads p page h.served.next.ledger (page_events write (p, page) g.added (option_map stop_of end))
      own = own-events (setting_by d' new) h.served.next.world h.served.next.ledger write p page g.added (option_map stop_of end)
          (subst (λ n. IsSound (setting_of n d') h.served.next.ledger) (sym same) h.served.keeps.stands.sound.ledger) g.touches

  -- the access goes on by m bytes of the page
  goes_on : {d'' : Device} (m : ℕ) → at + m ≤ 4096 → 1 ≤ m → IsPageStep d' d'' h.served.next new write p page at ys now after None
      → IsAccess d d'' s new write p a (k + m) (xs ++ ys) before after None (k + m)
  goes_on {d''} m small some g = record {
    page = page;
    served = with_page None (pages_of_access write a (k + m)) (world_served write p a (xs ++ ys))
        (sym (touched-one write a k m page at behind.is small some behind.begins)) g (λ w. served_twice w write p a page at xs ys (λ is. behind.is ∙ ap (λ n. a + n) (sym (long is))));
    is_end = refl;
  }

  -- or stops there
  stops : {d'' : Device} (n : ℕ) (stop : Stop) → k < n → IsPageStep d' d'' h.served.next new write p page at ys now after (Some stop)
      → IsAccess d d'' s new write p a n xs before after (Some stop) k
  stops {d''} n stop less g = record {
    page = page;
    served = served-more s new p (pages_of_access write a k ++ (write, page) ∷ []) rest (pages_of_access write a n)
        (append_assoc (pages_of_access write a k) ((write, page) ∷ []) rest
        ∙ sym (touched-more write a k n page at behind.is behind.small less behind.begins)) (world_served write p a xs) before after stop page
        (with_page (Some stop) (pages_of_access write a k ++ (write, page) ∷ []) (world_served write p a xs) refl g
        (λ w. stop_answer-world write p page at ys stop (world_served write p a xs w)));
    is_end = (served k behind.is behind.begins, less);
  }
    where
      rest : List (Bool × ℕ)
      rest = map (λ page. (write, page)) (range_with_len (page + 1) (touches a n - (touches a k + 1)))

      served : (k : ℕ) → 4096 * page + at ≡ a + k → (1 ≤ k → at ≡ 0) → k ≡ 4096 * page - a
      served zero is begins = omega (arith, is)
      served (suc k) is begins = let none : at ≡ 0 = begins (omega arith) in omega (arith, is, none)

-- ---- the pieces

behind-piece : (a n k : ℕ) (piece : Piece) → IsPiece a n k piece → k < n → (1 ≤ k → k < n → (a + k) % 4096 ≡ 0) → Behind a k piece.page piece.at
behind-piece a n k piece is less begins = record { is = is.0; small = is.1; begins = λ some. first (begins some less) }
  where
    first : (a + k) % 4096 ≡ 0 → piece.at ≡ 0
    first h = omega (arith, is.0, is.1, h)

piece-in_page : (a n k : ℕ) (piece : Piece) → IsPiece a n k piece → piece.at + piece.len ≤ 4096
piece-in_page a n k piece is = omega (arith, is.1, is.2)

piece-some : (a n k : ℕ) (piece : Piece) → IsPiece a n k piece → k < n → 1 ≤ piece.len
piece-some a n k piece is less = omega (arith, is.1, is.2, less)

pub piece-within : (a n k : ℕ) (piece : Piece) → IsPiece a n k piece → k < n → k + piece.len ≤ n
piece-within a n k piece is less = omega (arith, is.2, less)

-- behind a piece a page begins, or nothing is left
pub piece-ends : (a n k : ℕ) (piece : Piece) → IsPiece a n k piece → 1 ≤ k + piece.len → k + piece.len < n → (a + (k + piece.len)) % 4096 ≡ 0
piece-ends a n k piece is some less = omega (arith, is.0, is.1, is.2, less)

-- what is no stop is none
pub none_left : (end : Option Stop) → ((stop : Stop) → end ≡ Some stop → ⊥) → end ≡ None
none_left None h = refl
none_left (Some stop) h = absurd (h stop refl)

-- a page's step is taken from where the access stands
module _ {d d' : Device} (s : State) (mid new : Mem) (write : Bool) (p a n k : ℕ) (piece : Piece) (xs ys : List ℕ) (before now after : List Note)
    (end : Option Stop)
    (same : frame_count new ≡ frame_count mid) (is : IsPiece a n k piece) (less : k < n) (begins : 1 ≤ k → k < n → (a + k) % 4096 ≡ 0)
    (h : IsAccess d d' s mid write p a k xs before now None k) (long : write ≡ true → length xs ≡ k) where
  behind : Behind a k piece.page piece.at
  behind = behind-piece a n k piece is less begins

  pub piece-served : {d'' : Device} → IsPageStep d' d'' h.served.next new write p piece.page piece.at ys now after end →
      ((stop : Stop) → end ≡ Some stop → ⊥) →
      (zs : List ℕ) → xs ++ ys ≡ zs → IsAccess d d'' s new write p a (k + piece.len) zs before after None (k + piece.len)
  piece-served {d''} g none zs whole = subst (λ zs. IsAccess d d'' s new write p a (k + piece.len) zs before after None (k + piece.len)) whole
      (goes_on s mid new write p a k piece.page piece.at xs ys before now after same behind h long piece.len (piece-in_page a n k piece is)
      (piece-some a n k piece is less)
      (subst (λ end. IsPageStep d' d'' h.served.next new write p piece.page piece.at ys now after end) (none_left end none) g))

  pub piece-stopped : {d'' : Device} → IsPageStep d' d'' h.served.next new write p piece.page piece.at ys now after end → (stop : Stop) → end ≡ Some stop →
      IsAccess d d'' s new write p a n xs before after (Some stop) k
  piece-stopped {d''} g stop some = stops s mid new write p a k piece.page piece.at xs ys before now after same behind h long n stop less
      (subst (λ end. IsPageStep d' d'' h.served.next new write p piece.page piece.at ys now after end) some g)

-- what was shown is so after the next page's loads, and a piece that was served is shown too
module _ {d d' : Device} (s : State) (mid new : Mem) (p a n k : ℕ) (piece : Piece) (before now after : List Note) (shown shown' : List ℕ)
    (same : frame_count new ≡ frame_count mid) (is : IsPiece a n k piece) (less : k < n) (begins : 1 ≤ k → k < n → (a + k) % 4096 ≡ 0)
    (h : IsRead d d' s mid p a k before now None k shown) where
  no_write : false ≡ true → length {A = ℕ} [] ≡ k
  no_write e = cc

  pub read-served : {d'' : Device} → IsPageRead d' d'' h.access.served.next new p piece.page piece.at piece.len now after shown shown' None
      → IsRead d d'' s new p a (k + piece.len) before after None (k + piece.len) shown'
  unfolding goes_on with_page served-append page-served
  read-served g = record {
    access = goes_on s mid new false p a k piece.page piece.at [] [] before now after same (behind-piece a n k piece is less begins) h.access no_write
        piece.len (piece-in_page a n k piece is) (piece-some a n k piece is less) g.step;
    reads = reads-more (pages g.step.next.world p) a k piece.len
        (4096 * piece.page + piece.at) shown shown' g.shows.0 is.0 g.shows.1 g.shows.2 g.shows.3
        g.shows.4 (
          h.reads.0,
          subst (λ w. Shows (pages w p) a shown) (sym g.step.world)
              (loads-shows (setting_by d' new) h.access.served.next.world h.access.served.next.ledger
              (page_events false (p, piece.page) g.step.added None) p a shown h.reads.1),
          h.reads.2,
        );
  }

  pub read-stopped : {d'' : Device} (stop : Stop) → IsPageRead d' d'' h.access.served.next new p piece.page piece.at piece.len now after shown shown'
      (Some stop)
      → IsRead d d'' s new p a n before after (Some stop) k shown'
  unfolding stops with_page served-more served-append page-served
  read-stopped stop g = record {
    access = stops s mid new false p a k piece.page piece.at [] [] before now after same
        (behind-piece a n k piece is less begins) h.access no_write n stop less
        g.step;
    reads = subst (Reads (pages g.step.next.world p) a k) (sym g.shows) (
      h.reads.0,
      subst (λ w. Shows (pages w p) a shown) (sym g.step.world) (loads-shows (setting_by d' new) h.access.served.next.world h.access.served.next.ledger
          (page_events false (p, piece.page) g.step.added (Some (stop_of stop))) p a shown h.reads.1),
      h.reads.2,
    );
  }
