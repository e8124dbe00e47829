-- The reply to `areas`, and what is read of its text.
use Rattle.std.specs.Prelude.{◌≡◌, ℕ, [], ◌∷◌, ◌++◌, Bool, true, false, List, Option, Some, None, length}
use Rattle.std.specs.List.{flat_map}
use Rattle.av_text.specs.Hex.{hex}
use Rattle.av_text.specs.Prot.{prot_text}
use Rattle.av_text.specs.Word.{after}
use Rattle.av_trace.specs.declared.reply.Answer.TheVariants.{AreaList}
use Rattle.av_trace.specs.declared.reply.Reply.{Reply}
use Rattle.av_trace.specs.declared.row.Row.{Row}
use Rattle.av_trace.specs.declared.row.Row.TheVariants.{Area}
use Rattle.av_trace.specs.Row.{chain_text, flag_words, own_text}
use Rattle.av_audit_area.specs.declared.read.Words.{Words}

-- the reply that shows these rows
abbrev pub shown_areas : List Row → Reply
shown_areas rows = record { answer = AreaList (length rows); notes = []; rows = rows }

-- words with a byte between
abbrev pub words_with : ℕ → List (List ℕ) → List ℕ
words_with c [] = []
words_with c (w ∷ words) = w ++ flat_map (λ v. c ∷ v) words

-- the bytes behind a label, or all
abbrev pub behind : Option (List ℕ) → List ℕ → List ℕ
behind None bytes = bytes
behind (Some rest) bytes = rest

abbrev pub bytes_behind : List ℕ → List ℕ → List ℕ
bytes_behind label bytes = behind (after label bytes) bytes

-- whether a word stands in front, and what follows it and a space
abbrev pub flag_found : Option (List ℕ) → List ℕ → Bool × List ℕ
flag_found None words = (false, words)
flag_found (Some rest) words = (true, bytes_behind (32 ∷ []) rest)

abbrev pub flag_in : List ℕ → List ℕ → Bool × List ℕ
flag_in name words = flag_found (after name words) words

-- the words of the row of an area
abbrev pub AreWords : Row → Words → Type 0
AreWords (Area start end prot offset own chain flags) w =
    (w.start.now ≡ hex start) × (w.end.now ≡ hex end) × (w.prot.now ≡ prot_text prot)
    × (w.offset.now ≡ hex offset) × (w.own.now ≡ own_text own)
    × (w.chain.now ≡ chain_text chain) × (w.flags.now ≡ words_with 32 (flag_words flags))
AreWords row w = ⊥
