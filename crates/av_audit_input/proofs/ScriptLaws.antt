-- The text of a script: a line behind it, and its first line.
use Rattle.std.proofs.Common.{◌≡◌, ◌⊎◌, ℕ, ◌+◌, ◌<◌, List, [], ◌∷◌, ◌++◌, length, length-append, take, drop, get_or, Option, Some, refl, sym, ap, subst, ◌∙◌, arith}
use Rattle.std.proofs.Common.{append_assoc, inl, inr}
use Rattle.std.proofs.Math.ListN.{get_or-append}
use Rattle.std.proofs.Math.Seq.{drop-append-add, get_or-append_seam, take-append_seam}
use Rattle.std.proofs.lemmas.Bool.{cases_order, eq-eqb, eqb-true}
use Rattle.std.proofs.lemmas.List.Elements.{All-get_or}
use Rattle.memchr.specs.Find.{is_byte, NoneBefore, Nowhere, Passes}
use Rattle.av_ports.specs.Line.{HasNoNewline, IsNoNewline}
use Rattle.av_trace.specs.declared.command.Command.{Command}
use Rattle.av_trace.specs.Line.{Says}
use Rattle.av_trace.proofs.LineLaws.{says_one}
use Rattle.av_audit_input.specs.Script.{AreLinesOf, IsScript}
use Rattle.av_audit_input.specs.declared.script.Script.{Script}

-- one more line
pub script-more : (text : List ℕ) (commands : List Command) (line : List ℕ) (command : Command) → AreLinesOf text commands
    → HasNoNewline line → Says line (Some command) → AreLinesOf (text ++ (line ++ 10 ∷ [])) (commands ++ command ∷ [])
script-more text [] line command h one says = (line, [], ap (λ l. l ++ (line ++ 10 ∷ [])) h, one, says, refl)
script-more text (c ∷ cs) line command h one says = (
  h.0,
  h.1 ++ (line ++ 10 ∷ []),
  ap (λ l. l ++ (line ++ 10 ∷ [])) h.2 ∙ append_assoc h.0 (10 ∷ h.1) (line ++ 10 ∷ []),
  h.3,
  h.4,
  script-more h.1 cs line command h.5 one says,
)

-- a line with its newline stands in front
module _ (text line rest : List ℕ) (is : text ≡ line ++ 10 ∷ rest) where
  newline : get_or text (length line) 0 ≡ 10
  newline = ap (λ l. get_or l (length line) 0) is ∙ get_or-append_seam line 10 rest 0

  shorter : length line < length text
  shorter = omega (arith, ap length is, length-append line (10 ∷ rest))

  -- so there is a newline
  pub some-newline : Nowhere (Passes (is_byte 10) text) 0 (length text) → ⊥
  some-newline none = none (length line) (omega arith) shorter (eq-eqb _ 10 newline)

  -- and the first one ends the line
  pub line-size : (size : ℕ) → HasNoNewline line → NoneBefore (Passes (is_byte 10) text) 0 (length text) size
      → Passes (is_byte 10) text size → size ≡ length line
  line-size size one before at = by (cases_order size (length line))
    where
      by : (size ≡ length line) ⊎ ((size < length line) ⊎ (length line < size)) → size ≡ length line
      by (inl same) = same
      by (inr (inl within)) =
          let other = All-get_or IsNoNewline line size 0 within one in
          let here : get_or line size 0 ≡ 10 =
          sym (get_or-append line (10 ∷ rest) 0 size within) ∙ ap (λ l. get_or l size 0) (sym is) ∙ eqb-true _ 10 at in
          absurd (other here)
      by (inr (inr behind)) = absurd (before.before (length line) (omega arith) behind (eq-eqb _ 10 newline))

-- what the first line says is the first command
pub first-of : (text : List ℕ) (size : ℕ) (meaning : Option Command) (first : Command) (others : List Command)
    → NoneBefore (Passes (is_byte 10) text) 0 (length text) size → Passes (is_byte 10) text size → Says (take size text) meaning
    → AreLinesOf text (first ∷ others) → (meaning ≡ Some first) × AreLinesOf (drop (size + 1) text) others
first-of text size meaning first others before at says h =
    let size-is = line-size text h.0 h.1 h.2 size h.3 before at in
    let front : take size text ≡ h.0 = ap (λ n. take n text) size-is ∙ ap (take (length h.0)) h.2 ∙ take-append_seam h.0 (10 ∷ h.1) in
    let back : drop (size + 1) text ≡ h.1 =
    ap (λ n. drop (n + 1) text) size-is ∙ ap (drop (length h.0 + 1)) h.2 ∙ drop-append-add h.0 (10 ∷ h.1) 1 in (
      says_one h.0 meaning (Some first) (subst (λ l. Says l meaning) front says) h.4,
      subst (λ l. AreLinesOf l others) (sym back) h.5,
    )

pub pushed : (old new : Script) (text line : List ℕ) → text ≡ old.text.items ++ line → new.text.items ≡ text ++ 10 ∷ [] → new.count ≡ old.count + 1
    → HasNoNewline line → (commands : List Command) (command : Command) → IsScript old commands → Says line (Some command)
    → IsScript new (commands ++ command ∷ [])
pushed old new text line is ends count one commands command h says = record {
  lines = subst (λ l. AreLinesOf l (commands ++ command ∷ []))
      (sym (ends ∙ ap (λ l. l ++ 10 ∷ []) is ∙ append_assoc old.text.items line (10 ∷ [])))
      (script-more old.text.items commands line command h.lines one says);
  count = count ∙ ap (λ n. n + 1) h.count ∙ sym (length-append commands (command ∷ []));
}
