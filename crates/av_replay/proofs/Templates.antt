-- Templates of lines: the text that each stands for.
use Rattle.std.proofs.Common.{◌≡◌, ℕ, suc, zero, ◌+◌, ◌%◌, ◌<◌, ◌≤◌, false, List, [], ◌∷◌, ◌++◌, refl, sym, ap, arith}
use Rattle.std.specs.Prelude.{codes}
use Rattle.std.specs.Fmt.{digit_glyph, digits, decimal}
use Rattle.std.proofs.lemmas.Fmt.{decimal_digit}
use Rattle.av_trace.specs.Command.{line_of}
use Rattle.av_trace.specs.declared.command.Command.{Command}
use Rattle.av_trace.specs.declared.command.Command.TheVariants as commands
use Rattle.av_trace.specs.declared.place.Place.TheVariants.{Fixed}
use Rattle.av_text.specs.Hex.{hex}
use Rattle.av_replay.specs.Template.{IsDrawn, text_with}
use Rattle.av_replay.specs.Work.{address_of, command_by, command_of, reads_and_writes, reads_only}
use Rattle.av_replay.specs.declared.draws.Draws.{Draws}

-- an address of the load has one digit that differs
pub hex-page : (page : ℕ) → page < 16 → hex (address_of page) ≡ codes "1000" ++ digit_glyph false page ∷ codes "000"
unfolding digits
hex-page zero h = refl
hex-page (suc zero) h = refl
hex-page (suc (suc zero)) h = refl
hex-page (suc (suc (suc zero))) h = refl
hex-page (suc (suc (suc (suc zero)))) h = refl
hex-page (suc (suc (suc (suc (suc zero))))) h = refl
hex-page (suc (suc (suc (suc (suc (suc zero)))))) h = refl
hex-page (suc (suc (suc (suc (suc (suc (suc zero))))))) h = refl
hex-page (suc (suc (suc (suc (suc (suc (suc (suc zero)))))))) h = refl
hex-page (suc (suc (suc (suc (suc (suc (suc (suc (suc zero))))))))) h = refl
hex-page (suc (suc (suc (suc (suc (suc (suc (suc (suc (suc zero)))))))))) h = refl
hex-page (suc (suc (suc (suc (suc (suc (suc (suc (suc (suc (suc zero))))))))))) h = refl
hex-page (suc (suc (suc (suc (suc (suc (suc (suc (suc (suc (suc (suc zero)))))))))))) h = refl
hex-page (suc (suc (suc (suc (suc (suc (suc (suc (suc (suc (suc (suc (suc zero))))))))))))) h = refl
hex-page (suc (suc (suc (suc (suc (suc (suc (suc (suc (suc (suc (suc (suc (suc zero)))))))))))))) h = refl
hex-page (suc (suc (suc (suc (suc (suc (suc (suc (suc (suc (suc (suc (suc (suc (suc zero))))))))))))))) h = refl
hex-page (suc (suc (suc (suc (suc (suc (suc (suc (suc (suc (suc (suc (suc (suc (suc (suc n)))))))))))))))) h = absurd (omega (arith, h))

page-size : decimal 4096 ≡ codes "4096"
unfolding digits
page-size = refl

one : decimal 1 ≡ codes "1"
unfolding digits
one = refl

-- kinds that several numbers have
pub write-kind : (kind p a v : ℕ) → kind ≤ 4 → command_by kind p a v ≡ commands.Write p a (v ∷ [])
write-kind zero p a v h = refl
write-kind (suc zero) p a v h = refl
write-kind (suc (suc zero)) p a v h = refl
write-kind (suc (suc (suc zero))) p a v h = refl
write-kind (suc (suc (suc (suc zero)))) p a v h = refl
write-kind (suc (suc (suc (suc (suc n))))) p a v h = absurd (omega (arith, h))

pub read-kind : (kind p a v : ℕ) → 5 ≤ kind → kind ≤ 8 → command_by kind p a v ≡ commands.Read p a 1
read-kind zero p a v g h = absurd (omega (arith, g))
read-kind (suc zero) p a v g h = absurd (omega (arith, g))
read-kind (suc (suc zero)) p a v g h = absurd (omega (arith, g))
read-kind (suc (suc (suc zero))) p a v g h = absurd (omega (arith, g))
read-kind (suc (suc (suc (suc zero)))) p a v g h = absurd (omega (arith, g))
read-kind (suc (suc (suc (suc (suc zero))))) p a v g h = refl
read-kind (suc (suc (suc (suc (suc (suc zero)))))) p a v g h = refl
read-kind (suc (suc (suc (suc (suc (suc (suc zero))))))) p a v g h = refl
read-kind (suc (suc (suc (suc (suc (suc (suc (suc zero)))))))) p a v g h = refl
read-kind (suc (suc (suc (suc (suc (suc (suc (suc (suc n))))))))) p a v g h = absurd (omega (arith, h))

-- a line with its newline
abbrev pub whole : Command → List ℕ
whole c = line_of c ++ 10 ∷ []

abbrev newline : List ℕ → List ℕ
newline line = line ++ 10 ∷ []

module _ (d : Draws) (drawn : IsDrawn d) where
  process-digit : decimal d.process ≡ (48 + d.process) ∷ []
  process-digit = decimal_digit d.process (omega (arith, drawn.most))

  count-digit : decimal (1 + d.value % 4) ≡ (48 + (1 + d.value % 4)) ∷ []
  count-digit = decimal_digit (1 + d.value % 4) (omega arith)

  page-digits : hex (address_of d.page) ≡ codes "1000" ++ digit_glyph false d.page ∷ codes "000"
  page-digits = hex-page d.page drawn.page

  pub write-line : text_with d (codes "write P 1000G000 HL") ≡ line_of (commands.Write d.process (address_of d.page) (d.value ∷ []))
  write-line = rw (process-digit, page-digits) refl

  pub write-is : text_with d (codes "write P 1000G000 HL\n") ≡ whole (commands.Write d.process (address_of d.page) (d.value ∷ []))
  write-is = ap newline write-line

  pub read-line : text_with d (codes "read P 1000G000 1") ≡ line_of (commands.Read d.process (address_of d.page) 1)
  read-line = rw (process-digit, page-digits, one) refl

  pub read-is : text_with d (codes "read P 1000G000 1\n") ≡ whole (commands.Read d.process (address_of d.page) 1)
  read-is = ap newline read-line

  pub fork-line : text_with d (codes "fork P Q") ≡ line_of (commands.Fork d.process (1 + d.value % 8))
  fork-line = rw (process-digit, decimal_digit (1 + d.value % 8) (omega arith)) refl

  pub fork-is : text_with d (codes "fork P Q\n") ≡ whole (commands.Fork d.process (1 + d.value % 8))
  fork-is = ap newline fork-line

  pub exit-line : text_with d (codes "exit P") ≡ line_of (commands.Exit d.process)
  exit-line = rw (process-digit) refl

  pub exit-is : text_with d (codes "exit P\n") ≡ whole (commands.Exit d.process)
  exit-is = ap newline exit-line

  pub reclaim-line : text_with d (codes "reclaim N") ≡ line_of (commands.Reclaim (1 + d.value % 4))
  reclaim-line = rw (count-digit) refl

  pub reclaim-is : text_with d (codes "reclaim N\n") ≡ whole (commands.Reclaim (1 + d.value % 4))
  reclaim-is = ap newline reclaim-line

  pub age-line : text_with d (codes "age N") ≡ line_of (commands.Age (1 + d.value % 4))
  age-line = rw (count-digit) refl

  pub age-is : text_with d (codes "age N\n") ≡ whole (commands.Age (1 + d.value % 4))
  age-is = ap newline age-line

  pub complete-line : text_with d (codes "complete N") ≡ line_of (commands.Complete (1 + d.value % 4))
  complete-line = rw (count-digit) refl

  pub complete-is : text_with d (codes "complete N\n") ≡ whole (commands.Complete (1 + d.value % 4))
  complete-is = ap newline complete-line

  pub mprotect-read-line : text_with d (codes "mprotect P 1000G000 4096 r--")
      ≡ line_of (commands.Mprotect d.process (address_of d.page) 4096 reads_only)
  mprotect-read-line = rw (process-digit, page-digits, page-size) refl

  pub mprotect-read : text_with d (codes "mprotect P 1000G000 4096 r--\n") ≡ whole (commands.Mprotect d.process (address_of d.page) 4096 reads_only)
  mprotect-read = ap newline mprotect-read-line

  pub mprotect-write-line : text_with d (codes "mprotect P 1000G000 4096 rw-") ≡ line_of
      (commands.Mprotect d.process (address_of d.page) 4096 reads_and_writes)
  mprotect-write-line = rw (process-digit, page-digits, page-size) refl

  pub mprotect-write : text_with d (codes "mprotect P 1000G000 4096 rw-\n") ≡ whole
      (commands.Mprotect d.process (address_of d.page) 4096 reads_and_writes)
  mprotect-write = ap newline mprotect-write-line

  pub munmap-line : text_with d (codes "munmap P 1000G000 4096") ≡ line_of (commands.Munmap d.process (address_of d.page) 4096)
  munmap-line = rw (process-digit, page-digits, page-size) refl

  pub munmap-is : text_with d (codes "munmap P 1000G000 4096\n") ≡ whole (commands.Munmap d.process (address_of d.page) 4096)
  munmap-is = ap newline munmap-line

  pub mmap-line : text_with d (codes "mmap P 4096 rw- fixed 1000G000") ≡ line_of
      (commands.Mmap d.process 4096 reads_and_writes (Fixed (address_of d.page)))
  mmap-line = rw (process-digit, page-digits, page-size) refl

  pub mmap-is : text_with d (codes "mmap P 4096 rw- fixed 1000G000\n") ≡ whole
      (commands.Mmap d.process 4096 reads_and_writes (Fixed (address_of d.page)))
  mmap-is = ap newline mmap-line

  -- a line of this kind
  pub by-kind : (kind : ℕ) → d.kind ≡ kind → whole (command_by kind d.process (address_of d.page) d.value) ≡ whole (command_of d)
  by-kind kind is = ap (λ k. whole (command_by k d.process (address_of d.page) d.value)) (sym is)
