-- The lines of a load have no newline within.
use Rattle.std.proofs.Common.{◌≡◌, ◌≢◌, ℕ, suc, zero, ◌+◌, ◌%◌, ◌<◌, ◌≤◌, Bool, ◌&&◌, true, false, List, [], ◌∷◌, length, refl, subst, arith}
use Rattle.std.specs.Prelude.{All, ◌==◌, not, codes, if◌then◌else◌}
use Rattle.av_trace.specs.Command.{line_of}
use Rattle.av_trace.specs.declared.command.Command.{Command}
use Rattle.av_trace.specs.declared.command.Command.TheVariants as commands
use Rattle.av_trace.specs.declared.place.Place.TheVariants.{Fixed}
use Rattle.av_replay.specs.Work.{address_of, command_by, reads_only, reads_and_writes}
use Rattle.av_replay.proofs.Templates.{write-line, read-line, fork-line, exit-line, reclaim-line, age-line, complete-line, mprotect-read-line}
use Rattle.av_replay.proofs.Templates.{mprotect-write-line, munmap-line, mmap-line}
use Rattle.std.specs.List.{list_all}
use Rattle.std.proofs.lemmas.Bool.Decides.{nat_tests}
use Rattle.std.proofs.lemmas.List.Elements.{All-cons, All-nil}
use Rattle.av_replay.specs.Template.{IsDrawn, text_with, glyph}
use Rattle.av_replay.specs.declared.draws.Draws.{Draws}

-- a byte that is no newline stands for none
glyph-plain : (d : Draws) (b : ℕ) → (not (b == 10)) ≡ true → glyph d b ≡ 10 → ⊥
glyph-plain d b other = grind (arith, nat_tests)

both : (x y : Bool) → x && y ≡ true → (x ≡ true) × (y ≡ true)
both true true e = (refl, refl)
both true false e = absurd cc
both false y e = absurd cc

all-plain : (d : Draws) (t : List ℕ) → list_all (λ (b : ℕ). not (b == 10)) t ≡ true → All (λ b. b ≢ 10) (text_with d t)
all-plain d [] e = All-nil (λ b. b ≢ 10)
all-plain d (b ∷ t) e =
    let parts = both (not (b == 10)) (list_all (λ (b : ℕ). not (b == 10)) t) e in
    All-cons (λ b. b ≢ 10) (glyph d b) (text_with d t) (glyph-plain d b parts.0) (all-plain d t parts.1)

-- a line, without its newline
abbrev pub IsShort : Command → Type 0
IsShort c = All (λ b. b ≢ 10) (line_of c) × (length (line_of c) ≤ 8448)

pub short : (d : Draws) (t : List ℕ) (c : Command) → text_with d t ≡ line_of c → list_all (λ (b : ℕ). not (b == 10)) t ≡ true
    → length (text_with d t) ≤ 8448 → IsShort c
short d t c is plain few = (subst (λ line. All (λ b. b ≢ 10) line) is (all-plain d t plain), subst (λ (line : List ℕ). length line ≤ 8448) is few)

either : (b : Bool) (c e : Command) → IsShort c → IsShort e → IsShort (if b then c else e)
either true c e left right = left
either false c e left right = right

module _ (d : Draws) (drawn : IsDrawn d) where
  mprotect : (b : Bool) → IsShort (commands.Mprotect d.process (address_of d.page) 4096 reads_only) →
      IsShort (commands.Mprotect d.process (address_of d.page) 4096 reads_and_writes) →
      IsShort (commands.Mprotect d.process (address_of d.page) 4096 (if b then reads_only else reads_and_writes))
  mprotect true left right = left
  mprotect false left right = right

  pub is-short : (kind : ℕ) → kind < 16 → IsShort (command_by kind d.process (address_of d.page) d.value)
  is-short zero few = short d (codes "write P 1000G000 HL") (commands.Write d.process (address_of d.page) (d.value ∷ [])) (write-line d drawn)
      refl (omega arith)
  is-short (suc zero) few =
      short d (codes "write P 1000G000 HL") (commands.Write d.process (address_of d.page) (d.value ∷ [])) (write-line d drawn) refl (omega arith)
  is-short (suc (suc zero)) few =
      short d (codes "write P 1000G000 HL") (commands.Write d.process (address_of d.page) (d.value ∷ [])) (write-line d drawn) refl (omega arith)
  is-short (suc (suc (suc zero))) few =
      short d (codes "write P 1000G000 HL") (commands.Write d.process (address_of d.page) (d.value ∷ [])) (write-line d drawn) refl (omega arith)
  is-short (suc (suc (suc (suc zero)))) few =
      short d (codes "write P 1000G000 HL") (commands.Write d.process (address_of d.page) (d.value ∷ [])) (write-line d drawn) refl (omega arith)
  is-short (suc (suc (suc (suc (suc zero))))) few =
      short d (codes "read P 1000G000 1") (commands.Read d.process (address_of d.page) 1) (read-line d drawn) refl (omega arith)
  is-short (suc (suc (suc (suc (suc (suc zero)))))) few =
      short d (codes "read P 1000G000 1") (commands.Read d.process (address_of d.page) 1) (read-line d drawn) refl (omega arith)
  is-short (suc (suc (suc (suc (suc (suc (suc zero))))))) few =
      short d (codes "read P 1000G000 1") (commands.Read d.process (address_of d.page) 1) (read-line d drawn) refl (omega arith)
  is-short (suc (suc (suc (suc (suc (suc (suc (suc zero)))))))) few =
      short d (codes "read P 1000G000 1") (commands.Read d.process (address_of d.page) 1) (read-line d drawn) refl (omega arith)
  is-short (suc (suc (suc (suc (suc (suc (suc (suc (suc zero))))))))) few =
      short d (codes "fork P Q") (commands.Fork d.process (1 + d.value % 8)) (fork-line d drawn) refl (omega arith)
  is-short (suc (suc (suc (suc (suc (suc (suc (suc (suc (suc zero)))))))))) few =
      either _ (commands.Read 1 (address_of d.page) 1) (commands.Exit d.process)
      (short (record d { process = 1 }) (codes "read P 1000G000 1") (commands.Read 1 (address_of d.page) 1)
      (read-line (record d { process = 1 })
      (record { kind = drawn.kind; least = omega arith; most = omega arith; page = drawn.page; value = drawn.value })) refl (omega arith))
      (short d (codes "exit P") (commands.Exit d.process) (exit-line d drawn) refl (omega arith))
  is-short (suc (suc (suc (suc (suc (suc (suc (suc (suc (suc (suc zero))))))))))) few =
      short d (codes "reclaim N") (commands.Reclaim (1 + d.value % 4)) (reclaim-line d drawn) refl (omega arith)
  is-short (suc (suc (suc (suc (suc (suc (suc (suc (suc (suc (suc (suc zero)))))))))))) few =
      short d (codes "age N") (commands.Age (1 + d.value % 4)) (age-line d drawn) refl (omega arith)
  is-short (suc (suc (suc (suc (suc (suc (suc (suc (suc (suc (suc (suc (suc zero))))))))))))) few =
      short d (codes "complete N") (commands.Complete (1 + d.value % 4)) (complete-line d drawn) refl (omega arith)
  is-short (suc (suc (suc (suc (suc (suc (suc (suc (suc (suc (suc (suc (suc (suc zero)))))))))))))) few =
      mprotect _ (short d (codes "mprotect P 1000G000 4096 r--") (commands.Mprotect d.process (address_of d.page) 4096 reads_only)
      (mprotect-read-line d drawn) refl (omega arith))
      (short d (codes "mprotect P 1000G000 4096 rw-") (commands.Mprotect d.process (address_of d.page) 4096 reads_and_writes)
      (mprotect-write-line d drawn) refl (omega arith))
  is-short (suc (suc (suc (suc (suc (suc (suc (suc (suc (suc (suc (suc (suc (suc (suc zero))))))))))))))) few =
      either _ (commands.Munmap d.process (address_of d.page) 4096) (commands.Mmap d.process 4096 reads_and_writes (Fixed (address_of d.page)))
      (short d (codes "munmap P 1000G000 4096") (commands.Munmap d.process (address_of d.page) 4096) (munmap-line d drawn) refl (omega arith))
      (short d (codes "mmap P 4096 rw- fixed 1000G000") (commands.Mmap d.process 4096 reads_and_writes (Fixed (address_of d.page)))
      (mmap-line d drawn) refl (omega arith))
  is-short (suc (suc (suc (suc (suc (suc (suc (suc (suc (suc (suc (suc (suc (suc (suc (suc n)))))))))))))))) few = absurd (omega (arith, few))
