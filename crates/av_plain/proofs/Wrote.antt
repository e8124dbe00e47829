-- What a device was asked to write, one time after the other, and what notes tell of that.
use Rattle.std.proofs.Common.{◌≡◌, ℕ, ◌+◌, ◌<◌, Bool, true, false, cond, is_some, List, [], ◌∷◌, ◌++◌, Option, Some, None, refl, sym, ap, subst, ◌∙◌, arith}
use Rattle.std.proofs.lemmas.List.{append-nil, append_assoc}
use Rattle.std.specs.List.{AllByRecursion, cons_option}
use Rattle.av_base.specs.declared.slot.Slot.{Slot}
use Rattle.av_swapdev.specs.Device.{History, after_write}
use Rattle.av_trace.specs.declared.note.Note.{Note}
use Rattle.av_plain.specs.Device.{Device, IsSameDevice, Wrote, WroteSome, as_told}
use Rattle.av_trace.specs.declared.note.Note.TheVariants.{Aged, Copied, Dropped, Failed, Joined, Kept, Loaded, Mapped, Moved, New, Put, Shared, Started, Unmapped, Written, Zeroed}
use Rattle.av_base.specs.Words.{how_many}
use Rattle.av_plain.specs.Pass.{fails, is_fail, page_written, pages_written}

pub wrote-none : (h : History) → Wrote [] h h
wrote-none h = record { attached = refl; written = sym (append-nil h.written) }

pub wrote-then : (a b c : History) (ps qs : List Slot) → Wrote ps a b → Wrote qs b c → Wrote (ps ++ qs) a c
wrote-then a b c ps qs p q = record {
  attached = q.attached ∙ p.attached;
  written = q.written ∙ ap (λ x. x ++ qs) p.written ∙ append_assoc a.written ps qs;
}

-- one more call
pub wrote-one : (a b : History) (s : Slot) → b ≡ after_write s.area s.page a → Wrote (s ∷ []) a b
wrote-one a b s is = record { attached = ap (λ h. h.attached) is; written = ap (λ h. h.written) is }

-- none
pub wrote-same : (a b : History) → b ≡ a → Wrote [] a b
wrote-same a b is = subst (Wrote [] a) (sym is) (wrote-none a)

all-then : (P : Slot → Type 0) (ps qs : List Slot) → AllByRecursion P ps → AllByRecursion P qs → AllByRecursion P (ps ++ qs)
all-then P [] qs p q = q
all-then P (x ∷ ps) qs p q = (p.0, all-then P ps qs p.1 q)

pub some-none : (h : History) → WroteSome h h
some-none h = record { pages = []; wrote = wrote-none h; behind_header = tt }

pub some-then : (a b c : History) → WroteSome a b → WroteSome b c → WroteSome a c
some-then a b c p q = record {
  pages = p.pages ++ q.pages;
  wrote = wrote-then a b c p.pages q.pages p.wrote q.wrote;
  behind_header = all-then (λ s. 0 < s.page) p.pages q.pages p.behind_header q.behind_header;
}

pub some-same : (a b : History) → b ≡ a → WroteSome a b
some-same a b is = subst (WroteSome a) (sym is) (some-none a)

pub some-one : (a b : History) (s : Slot) → 0 < s.page → b ≡ after_write s.area s.page a → WroteSome a b
some-one a b s low is = record { pages = s ∷ []; wrote = wrote-one a b s is; behind_header = (low, tt) }

-- ---- one device

pub device-itself : (d : Device) → IsSameDevice d d
device-itself d = record { sizes = refl; first = refl; failures = omega arith; history = some-none d.history }

pub device-on : (a b c : Device) → IsSameDevice a b → IsSameDevice b c → IsSameDevice a c
device-on a b c p q = record {
  sizes = q.sizes ∙ p.sizes;
  first = q.first ∙ p.first;
  failures = let x = p.failures in let y = q.failures in omega (arith, x, y);
  history = some-then a.history b.history c.history p.history q.history;
}

-- so it is of one that doesn't tell its pages
pub device-told : (told : Bool) (d d' : Device) → IsSameDevice d d' → IsSameDevice (as_told told d) (as_told told d')
device-told true d d' same = same
device-told false d d' same = record { sizes = same.sizes; first = refl; failures = same.failures; history = same.history }

-- ---- what notes tell

pages-cons : (o : Option Slot) (xs ys : List Slot) → (cons_option o xs) ++ ys ≡ cons_option o (xs ++ ys)
pages-cons None xs ys = refl
pages-cons (Some s) xs ys = refl

pub pages-append : (ns ms : List Note) → pages_written (ns ++ ms) ≡ pages_written ns ++ pages_written ms
pages-append [] ms = refl
pages-append (n ∷ ns) ms = ap (cons_option (page_written n)) (pages-append ns ms) ∙ sym (pages-cons (page_written n) (pages_written ns) (pages_written ms))

pub wrote-notes : (a b c : History) (ns ms : List Note) → Wrote (pages_written ns) a b → Wrote (pages_written ms) b c
    → Wrote (pages_written (ns ++ ms)) a c
wrote-notes a b c ns ms p q = subst (λ ps. Wrote ps a c) (sym (pages-append ns ms))
    (wrote-then a b c (pages_written ns) (pages_written ms) p q)

-- ---- notes of writes that end

-- a write ended, well or not
abbrev pub is_end : Note → Bool
is_end note = is_some (page_written note)

-- how many did
abbrev pub ends : List Note → ℕ
ends notes = how_many is_end notes

fail-ends : (note : Note) → is_end note ≡ false → is_fail note ≡ false
fail-ends (Zeroed p a) h = refl
fail-ends (New p a f) h = refl
fail-ends (Copied p a f) h = refl
fail-ends (Loaded s f) h = refl
fail-ends (Mapped p a f) h = refl
fail-ends (Put f s) h = refl
fail-ends (Unmapped f) h = refl
fail-ends (Started s) h = refl
fail-ends (Written s) h = refl
fail-ends (Failed s) h = h
fail-ends (Dropped s) h = refl
fail-ends (Kept f c) h = refl
fail-ends (Aged f) h = refl
fail-ends (Shared f) h = refl
fail-ends (Joined p a f) h = refl
fail-ends (Moved a b) h = refl

-- where none did, none failed, and no page was to be written
pub fails-ended : (notes : List Note) → ends notes ≡ 0 → fails notes ≡ 0
fails-ended [] h = refl
fails-ended (n ∷ notes) h = by (is_end n) refl h (fails-ended notes)
  where
    by : (b : Bool) → is_end n ≡ b → cond b 1 0 + ends notes ≡ 0 → (ends notes ≡ 0 → fails notes ≡ 0) → fails (n ∷ notes) ≡ 0
    by true e h rest = absurd (let z : 1 + ends notes ≡ 0 = h in omega (arith, z))
    by false e h rest = let none : 0 + ends notes ≡ 0 = h in
        ap (λ b. cond b 1 0 + fails notes) (fail-ends n e) ∙ ap (λ k. 0 + k) (rest (omega (arith, none)))

pub written-ended : (notes : List Note) → ends notes ≡ 0 → pages_written notes ≡ []
written-ended [] h = refl
written-ended (n ∷ notes) h = by (page_written n) h (written-ended notes)
  where
    by : (o : Option Slot) → cond (is_some o) 1 0 + ends notes ≡ 0 → (ends notes ≡ 0 → pages_written notes ≡ [])
        → cons_option o (pages_written notes) ≡ []
    by None h rest = let none : 0 + ends notes ≡ 0 = h in rest (omega (arith, none))
    by (Some s) h rest = absurd (let z : 1 + ends notes ≡ 0 = h in omega (arith, z))

-- and then the device is asked for nothing
pub wrote-nothing : (a b : History) (ps : List Slot) → ps ≡ [] → Wrote ps a b → b ≡ a
wrote-nothing a b ps none h = λ i. record {
  attached = h.attached i;
  written = (h.written ∙ ap (λ x. a.written ++ x) none ∙ append-nil a.written) i;
}
