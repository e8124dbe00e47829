-- The reply to `areas`, read back line by line.
use Rattle.std.proofs.Common.{◌≡◌, ℕ, true, List, [], ◌∷◌, ◌++◌, append_assoc, append-nil, length, refl, sym, ap, ◌∙◌, arith}
use Rattle.std.specs.Prelude.{IfSome, Option, Some, None, codes}
use Rattle.std.specs.List.{AllByRecursion, flat_map}
use Rattle.std.specs.Fmt.{decimal}
use Rattle.av_base.specs.declared.flags.Flags.{Flags}
use Rattle.av_base.specs.declared.prot.Prot.{Prot}
use Rattle.av_text.specs.Hex.{hex}
use Rattle.av_text.specs.Number.{IsWide}
use Rattle.av_text.specs.Prot.{prot_text}
use Rattle.av_text.proofs.NumberLaws.{sixteen}
use Rattle.av_trace.specs.declared.reply.Answer.TheVariants.{AreaList}
use Rattle.av_trace.specs.declared.row.Row.{Row}
use Rattle.av_trace.specs.declared.row.Row.TheVariants.{Run, Area, Entry}
use Rattle.av_trace.specs.Print.{rows_text, text_of}
use Rattle.av_trace.specs.Reply.{IsReply, answer_line}
use Rattle.av_trace.specs.Row.{IsAreaRow, area_words, chain_text, flag_words, link_words, own_text, range_text, row_line}
use Rattle.av_trace.proofs.PlainWords.{hex-named, lacks-low, no_newline, number-named, plain-prot, range-named}
use Rattle.av_trace.proofs.ReplyLaws.{answer_line-is}
use Rattle.av_trace.proofs.RowLaws.{area_line-is}
use Rattle.av_trace.proofs.Split.{lacks-append, lacks-cons, lacks as has_none}
use Rattle.av_audit_judge.specs.Notes.{lacks}
use Rattle.av_audit_judge.proofs.NoteLaws.{lacks-same}
use Rattle.av_audit_area.specs.Read.{AreWords, bytes_behind, words_with, shown_areas}
use Rattle.av_audit_area.specs.declared.read.Words.{Words}
use Rattle.av_audit_area.proofs.WordLaws.{IsPiece, label-same, piece-words_with}

-- ---- the words of a row

spaceless : (w : List ℕ) → has_none 32 w ≡ true → lacks 32 w ≡ true
spaceless w p = sym (lacks-same 32 w) ∙ p

-- a word behind a label
labelled : (label w : List ℕ) → has_none 32 label ≡ true → has_none 32 w ≡ true → lacks 32 (label ++ w) ≡ true
labelled label w p q = spaceless (label ++ w) (lacks-append 32 label w p q)

own-spaceless : (own : Option ℕ) → IfSome own IsWide → has_none 32 (own_text own) ≡ true
own-spaceless None wide = refl
own-spaceless (Some n) wide = (number-named wide).plain.space

commas-spaceless : (ns : List ℕ) → AllByRecursion IsWide ns → has_none 32 (flat_map (λ n. 44 ∷ decimal n) ns) ≡ true
commas-spaceless [] wide = refl
commas-spaceless (n ∷ ns) wide = lacks-append 32 (44 ∷ decimal n) (flat_map (λ n. 44 ∷ decimal n) ns)
    (lacks-cons 32 44 (decimal n) (λ e. omega arith) (number-named wide.0).plain.space) (commas-spaceless ns wide.1)

chain-spaceless : (chain : List ℕ) → AllByRecursion IsWide chain → has_none 32 (chain_text chain) ≡ true
chain-spaceless [] wide = refl
chain-spaceless (n ∷ ns) wide = lacks-append 32 (decimal n) (flat_map (λ n. 44 ∷ decimal n) ns) (number-named wide.0).plain.space
    (commas-spaceless ns wide.1)

-- the pieces of a line, one behind the other
pub record AreCut (line : List ℕ) (w : Words) : Type 0 where
  pub none : List ℕ
  pub from_range : List ℕ
  pub range : List ℕ
  pub from_prot : List ℕ
  pub from_offset : List ℕ
  pub offset : List ℕ
  pub from_own : List ℕ
  pub own : List ℕ
  pub from_chain : List ℕ
  pub chain : List ℕ
  pub first : IsPiece 32 line none from_range
  pub second : IsPiece 32 from_range range from_prot
  pub addresses : IsPiece 45 range w.start.now w.end.now
  pub third : IsPiece 32 from_prot w.prot.now from_offset
  pub fourth : IsPiece 32 from_offset offset from_own
  pub fifth : IsPiece 32 from_own own from_chain
  pub sixth : IsPiece 32 from_chain chain w.flags.now
  pub offset_is : w.offset.now ≡ bytes_behind (codes "off=") offset
  pub own_is : w.own.now ≡ bytes_behind (codes "own=") own
  pub chain_is : w.chain.now ≡ bytes_behind (codes "chain=") chain

pub words-cut : (row : Row) (line : List ℕ) (w : Words) → AreCut line w → IsAreaRow row → line ≡ 32 ∷ row_line row → AreWords row w
words-cut (Run start end prot) line w c is read = absurd is
words-cut (Entry p address) line w c is read = absurd is
words-cut (Area start end prot offset own chain flags) line w c is read =
    let all = c.first.cut [] (row_line (Area start end prot offset own chain flags)) refl read in
    let one = piece-words_with 32 (range_text start end) (area_words prot offset own chain flags) c.from_range c.range c.from_prot c.second
    (spaceless (range_text start end) (range-named is.0 is.1).plain.space) all.1 in
    let ends = c.addresses.cut (hex start) (hex end) (sym (lacks-same 45 (hex start)) ∙ lacks-low 16 45 start sixteen (omega arith) is.0) one.0 in
    let two = piece-words_with 32 (prot_text prot) (link_words offset own chain ++ flag_words flags) c.from_prot w.prot.now c.from_offset c.third
    (spaceless (prot_text prot) (plain-prot prot).space) one.1 in
    let three = piece-words_with 32 (codes "off=" ++ hex offset) ((codes "own=" ++ own_text own) ∷ (codes "chain=" ++ chain_text chain) ∷ flag_words flags)
    c.from_offset c.offset c.from_own c.fourth (labelled (codes "off=") (hex offset) refl (hex-named is.2).plain.space) two.1 in
    let four = piece-words_with 32 (codes "own=" ++ own_text own) ((codes "chain=" ++ chain_text chain) ∷ flag_words flags) c.from_own c.own c.from_chain
    c.fifth (labelled (codes "own=") (own_text own) refl (own-spaceless own is.3)) three.1 in
    let five = piece-words_with 32 (codes "chain=" ++ chain_text chain) (flag_words flags) c.from_chain c.chain w.flags.now c.sixth
    (labelled (codes "chain=") (chain_text chain) refl (chain-spaceless chain is.4)) four.1 in (
      ends.0,
      ends.1,
      two.0,
      label-same (codes "off=") c.offset (hex offset) w.offset.now c.offset_is three.0,
      label-same (codes "own=") c.own (own_text own) w.own.now c.own_is four.0,
      label-same (codes "chain=") c.chain (chain_text chain) w.chain.now c.chain_is five.0,
      five.1,
    )

-- what is read of words, where these are a row's
pub record ReadOf (w : Words) (start end : ℕ) (prot : Prot) (offset : ℕ) (own : Option ℕ) (chain : List ℕ) (flags : Flags) : Type 0 where
  pub starts : (n : ℕ) → IsWide n → w.start.now ≡ hex n → start ≡ n
  pub ends : (n : ℕ) → IsWide n → w.end.now ≡ hex n → end ≡ n
  pub prots : (p : Prot) → w.prot.now ≡ prot_text p → prot ≡ p
  pub offsets : (n : ℕ) → IsWide n → w.offset.now ≡ hex n → offset ≡ n
  pub owns : (o : Option ℕ) → IfSome o IsWide → w.own.now ≡ own_text o → own ≡ o
  pub chains : (ns : List ℕ) → AllByRecursion IsWide ns → w.chain.now ≡ chain_text ns → chain ≡ ns
  pub flagged : (f : Flags) → w.flags.now ≡ words_with 32 (flag_words f) → flags ≡ f

pub row-same : (row : Row) (w : Words) (start end : ℕ) (prot : Prot) (offset : ℕ) (own : Option ℕ) (chain : List ℕ) (flags : Flags)
    → ReadOf w start end prot offset own chain flags → IsAreaRow row → AreWords row w → Area start end prot offset own chain flags ≡ row
row-same (Run s e p) w start end prot offset own chain flags r is h = absurd is
row-same (Entry p address) w start end prot offset own chain flags r is h = absurd is
row-same (Area s e p o v c f) w start end prot offset own chain flags r is h =
    let starts = r.starts s is.0 h.0 in
    let ends = r.ends e is.1 h.1 in
    let prots = r.prots p h.2 in
    let offsets = r.offsets o is.2 h.3 in
    let owns = r.owns v is.3 h.4 in
    let chains = r.chains c is.4 h.5 in
    let flagged = r.flagged f h.6 in
    λ i. Area (starts i) (ends i) (prots i) (offsets i) (owns i) (chains i) (flagged i)

-- ---- rows

-- some rows have been read, and these are left
abbrev pub ArePartOf : List Row → List Row → List ℕ → Type 0
ArePartOf all rows rest = (left : List Row) × (all ≡ rows ++ left) × AllByRecursion IsAreaRow left × (rest ≡ rows_text left)

pub rows-none : (all rows : List Row) (text : List ℕ) → rows ≡ [] → AllByRecursion IsAreaRow all → text ≡ rows_text all → ArePartOf all rows text
rows-none all rows text none fit is = (all, ap (λ r. r ++ all) (sym none), fit, is)

pub rows-all : (all rows : List Row) (rest : List ℕ) → ArePartOf all rows rest → rest ≡ [] → rows ≡ all
rows-all all rows rest part none = by part.0 part.1 part.3
  where
    by : (left : List Row) → all ≡ rows ++ left → rest ≡ rows_text left → rows ≡ all
    by [] whole is = sym (append-nil rows) ∙ sym whole
    by (row ∷ left) whole is = absurd (differ (sym none ∙ is))
      where
        differ : {a : ℕ} {x : List ℕ} → [] ≡ a ∷ x → ⊥
        differ e = cc

pub rows-more : (all rows new : List Row) (rest line others : List ℕ) (row : Row) → ArePartOf all rows rest → (rest ≡ [] → ⊥)
    → IsPiece 10 rest line others
    → ((r : Row) → IsAreaRow r → line ≡ 32 ∷ row_line r → row ≡ r) → new ≡ rows ++ row ∷ [] → ArePartOf all new others
rows-more all rows new rest line others row part some piece read made = by part.0 part.1 part.2 part.3
  where
    by : (left : List Row) → all ≡ rows ++ left → AllByRecursion IsAreaRow left → rest ≡ rows_text left → ArePartOf all new others
    by [] whole fit is = absurd (some is)
    by (r ∷ left) whole fit is =
        let lacking : lacks 10 (32 ∷ row_line r) ≡ true = sym (lacks-same 10 (32 ∷ row_line r))
        ∙ lacks-cons 10 32 (row_line r) (λ h. omega arith) (no_newline (area_line-is r fit.0)) in
        let cut = piece.cut (32 ∷ row_line r) (rows_text left) lacking (is ∙ append_assoc (32 ∷ row_line r) (10 ∷ []) (rows_text left)) in
        let same : row ≡ r = read r fit.0 cut.0 in (
          left,
          whole ∙ sym (append_assoc rows (r ∷ []) left) ∙ ap (λ r. (rows ++ r ∷ []) ++ left) (sym same) ∙ ap (λ rs. rs ++ left) (sym made),
          fit.1,
          cut.1,
        )

-- ---- the reply

-- its rows come behind its first line
pub lines-cut : (rows : List Row) (text first others : List ℕ) → IsReply (shown_areas rows) → text ≡ text_of (shown_areas rows)
    → IsPiece 10 text first others → others ≡ rows_text rows
lines-cut rows text first others form is piece =
    let lacking : lacks 10 (answer_line (AreaList (length rows))) ≡ true = sym (lacks-same 10 (answer_line (AreaList (length rows))))
    ∙ no_newline (answer_line-is (AreaList (length rows)) form.answer) in
    (piece.cut (answer_line (AreaList (length rows))) (rows_text rows) lacking
    (is ∙ ap (λ t. t ++ rows_text rows) (append-nil (answer_line (AreaList (length rows)) ++ 10 ∷ []))
    ∙ append_assoc (answer_line (AreaList (length rows))) (10 ∷ []) (rows_text rows))).1

pub rows-fit : (rows : List Row) → IsReply (shown_areas rows) → AllByRecursion IsAreaRow rows
rows-fit rows form = form.rest.2
