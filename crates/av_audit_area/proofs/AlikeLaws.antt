-- What is said, compared page by page where something else is.
use Rattle.std.proofs.Common.{◌≡◌, inl, inr, ℕ, ◌<◌, ◌≤◌, Bool, true, false, ◌&&◌, Option, arith, refl, sym, ◌∙◌}
use Rattle.std.proofs.Math.Bool.{beq}
use Rattle.std.proofs.lemmas.Bool.{cases_lt}
use Rattle.av_base.specs.declared.flags.Flags.{Flags}
use Rattle.av_base.specs.declared.prot.Prot.{Prot}
use Rattle.av_audit_ranges.specs.declared.marks.Marks.{Marks}
use Rattle.av_audit_area.specs.Alike.{SaySame}

one-bit : (a b : Bool) (rest : Bool) → (beq a b && rest) ≡ true → (a ≡ b) × (rest ≡ true)
one-bit true true rest h = (refl, h)
one-bit false false rest h = (refl, h)
one-bit true false rest h = cc
one-bit false true rest h = cc

last-bit : (a b : Bool) → beq a b ≡ true → a ≡ b
last-bit true true h = refl
last-bit false false h = refl
last-bit true false h = cc
last-bit false true h = cc

pub prot-same : (a b : Prot) → (beq a.read b.read && (beq a.write b.write && beq a.execute b.execute)) ≡ true → a ≡ b
prot-same a b h =
    let r = one-bit a.read b.read (beq a.write b.write && beq a.execute b.execute) h in
    let w = one-bit a.write b.write (beq a.execute b.execute) r.1 in
    let x = last-bit a.execute b.execute w.1 in
    λ i. record { read = r.0 i; write = w.0 i; execute = x i }

pub flags-same : (a b : Flags) → (beq a.dont_fork b.dont_fork && (beq a.wipe_on_fork b.wipe_on_fork && (beq a.locked b.locked
    && beq a.mergeable b.mergeable))) ≡ true → a ≡ b
flags-same a b h =
    let d = one-bit a.dont_fork b.dont_fork (beq a.wipe_on_fork b.wipe_on_fork && (beq a.locked b.locked && beq a.mergeable b.mergeable)) h in
    let w = one-bit a.wipe_on_fork b.wipe_on_fork (beq a.locked b.locked && beq a.mergeable b.mergeable) d.1 in
    let l = one-bit a.locked b.locked (beq a.mergeable b.mergeable) w.1 in
    let m = last-bit a.mergeable b.mergeable l.1 in
    λ i. record { dont_fork = d.0 i; wipe_on_fork = w.0 i; locked = l.0 i; mergeable = m i }

pub marks-same : (one other : Marks) → (one.prot ≡ other.prot) × (one.flags ≡ other.flags) → one ≡ other
marks-same one other h = λ i. record { prot = h.0 i; flags = h.1 i }

-- the same is said of one page more, and of those of which nothing else is said
pub more-said : (one other : ℕ → Option Marks) (page to next : ℕ) → SaySame one other page → one page ≡ other page
    → ((q : ℕ) → page ≤ q → q < to → one q ≡ one page) → ((q : ℕ) → page ≤ q → q < next → other q ≡ other page) → next ≤ to
    → SaySame one other next
more-said one other page to next before here first second most q low = elim (cases_lt q page) [
  | inl lt ↦ before q lt
  | inr ge ↦ first q ge (omega (arith, low, most)) ∙ here ∙ sym (second q ge low)
]
