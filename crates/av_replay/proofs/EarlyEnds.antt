-- What was written where a run ended before the end of its trace.
use Rattle.std.proofs.Common.{◌≡◌, ℕ, ◌+◌, ◌<◌, ◌≤◌, List, [], ◌∷◌, ◌++◌, length, take, Option, Some, None, refl, sym, ap, subst, ◌∙◌, append_assoc, append-nil}
use Rattle.std.proofs.Common.{arith, inl, inr, length-append}
use Rattle.std.specs.Prelude.{All, unwrap_or, option_map, IfSome}
use Rattle.std.specs.List.{AllByRecursion}
use Rattle.std.specs.Option.{option_to_list}
use Rattle.std.proofs.lemmas.List.Elements.{All-cons, All-nil}
use Rattle.av_trace.specs.Print.{text_of}
use Rattle.av_kernel.specs.Machine.{Machine}
use Rattle.av_plain.specs.Device.{setting_of}
use Rattle.av_plain.specs.Transcript.{Exchange, IsRun, at_first, text_of_run}
use Rattle.av_replay.specs.declared.status.Status.TheVariants as statuses
use Rattle.av_io.specs.Sink.{Gained}
use Rattle.av_io.specs.Source.{SourceView, Took}
use Rattle.av_ports.specs.Line.{IsLine}
use Rattle.av_ports.specs.Ports.{PortsView, IsAtEnd}
use Rattle.av_replay.specs.Replay.{all_lines, most_lines, done_lines, Transcribes, Replays, Run, IsCutOff, IsHandedOn, Headline, DoesTrace}
use Rattle.av_replay.specs.Trace.{lines_of, IsGood, WritesTranscript, EndsAtBadLine, EndsAtMostLines, EndsAtRead, EndsWithinReply}
use Rattle.av_replay.proofs.Traces.{Told, told, read_is, split, all_done, some_line, bad_next, written_of}

-- lines that were done are good
all_good : (lines : List (List ℕ)) (es : List Exchange) → AllByRecursion IsLine lines → Transcribes lines es → All IsGood lines
all_good [] es all did = All-nil IsGood
all_good (line ∷ lines) es all did =
    All-cons IsGood line lines
    (record { is_line = all.0; said = option_map (λ (e : Exchange). e.command) did.0; says = did.3 })
    (all_good lines did.1 all.1 did.4)

-- where no last line without newline was done, these are all
no_last : (run : Run) → run.last ≡ None → done_lines run ≡ run.lines
no_last run none = ap (λ (last : Option (List ℕ)). run.lines ++ option_to_list last) none ∙ append-nil run.lines

module _ (n : ℕ) (old new : PortsView) (run : Run) (rest written content before : List ℕ) (r : Replays n old new run rest written)
    (none : run.last ≡ None) (left : old.source.left ≡ Some content) (held : old.sink.held ≡ Some before) where
  -- what the source has told of the lines
  pub told_of : Told content (all_lines run.lines ++ rest) new.source.left
  told_of = told content (all_lines run.lines ++ rest) new.source.left
      (read_is old.source.left new.source.left content (all_lines run.lines) rest run.last left none r.read)

  pub good_of : All IsGood run.lines
  good_of = all_good run.lines run.transcript r.lines
      (subst (λ (ls : List (List ℕ)). Transcribes ls run.transcript) (no_last run none) r.commands)

  pub lines_are : lines_of content ≡ run.lines ++ lines_of (rest ++ told_of.more)
  lines_are = split run.lines rest content told_of.more r.lines told_of.parts

  pub writes_of : written ≡ text_of_run run.transcript → WritesTranscript n old.device run.lines before new.sink.held
  writes_of text = written_of n old new run rest written before run.lines r (no_last run none) text held

pub ends_at_bad_line : (n number : ℕ) (old new : PortsView) (kernel : Option Machine) (content before : List ℕ)
    → Headline n (statuses.BadLine number) old new kernel → old.source.left ≡ Some content → old.sink.held ≡ Some before
    → EndsAtBadLine n number old.device (lines_of content) before new.sink.held
ends_at_bad_line n number old new kernel content before h left held =
    let stops = h.ends.0 in
    let t = told_of n old new h.run h.rest h.written content before h.replays stops.0 left held in
    let next = bad_next h.rest t.more new.source t.left_is stops.3 in
    record {
      done = h.run.lines;
      line = next.line;
      others = next.others;
      are = lines_are n old new h.run h.rest h.written content before h.replays stops.0 left held
          ∙ ap (λ (ls : List (List ℕ)). h.run.lines ++ ls) next.are;
      number_is = stops.1;
      good = good_of n old new h.run h.rest h.written content before h.replays stops.0 left held;
      bad = next.bad;
      writes = writes_of n old new h.run h.rest h.written content before h.replays stops.0 left held h.ends.1;
    }

-- there is a first line of some
pub record HasFirst (lines : List (List ℕ)) : Type 0 where
  pub line : List ℕ
  pub others : List (List ℕ)
  pub are : lines ≡ line ∷ others

has_first : (lines : List (List ℕ)) → 0 < length lines → HasFirst lines
has_first [] some = absurd (omega (arith, some))
has_first (line ∷ others) some = record { line = line; others = others; are = refl }

pub ends_at_most_lines : (n : ℕ) (old new : PortsView) (kernel : Option Machine) (content before : List ℕ)
    → Headline n statuses.TooMany old new kernel → old.source.left ≡ Some content → old.sink.held ≡ Some before
    → EndsAtMostLines n old.device (lines_of content) before new.sink.held
ends_at_most_lines n old new kernel content before h left held =
    let stops = h.ends.0 in
    let t = told_of n old new h.run h.rest h.written content before h.replays stops.0 left held in
    let next = has_first (lines_of (h.rest ++ t.more)) (some_line (h.rest ++ t.more) (omega (arith, length-append h.rest t.more, stops.2))) in
    record {
      done = h.run.lines;
      line = next.line;
      others = next.others;
      are = lines_are n old new h.run h.rest h.written content before h.replays stops.0 left held
          ∙ ap (λ (ls : List (List ℕ)). h.run.lines ++ ls) next.are;
      most = stops.1;
      writes = writes_of n old new h.run h.rest h.written content before h.replays stops.0 left held h.ends.1;
    }

pub ends_at_read : (n : ℕ) (old new : PortsView) (kernel : Option Machine) (content before : List ℕ)
    → DoesTrace n statuses.ReadFault old new kernel → old.source.left ≡ Some content → old.sink.held ≡ Some before
    → EndsAtRead n old.device content new.source.left before new.sink.held new.sink.kept_back
ends_at_read n old new kernel content before does left held =
    let h = does.headline in
    let stops = h.ends.0 in
    let flushed : IsHandedOn 0 old new = does.flushed in
    let t = told_of n old new h.run h.rest h.written content before h.replays stops.0 left held in
    record {
      done = h.run.lines;
      part = h.rest;
      more = t.more;
      read = t.parts;
      left_is = t.left_is;
      good = good_of n old new h.run h.rest h.written content before h.replays stops.0 left held;
      part_is = stops.2;
      writes = writes_of n old new h.run h.rest h.written content before h.replays stops.0 left held h.ends.1;
      handed_on = flushed.none_kept;
    }

-- the lines that were done are the first ones of the text
pub record StandsFirst (done lines : List (List ℕ)) : Type 0 where
  pub others : List (List ℕ)
  pub are : lines ≡ done ++ others

stand_first : (n : ℕ) (old new : PortsView) (run : Run) (rest written content : List ℕ) (last : Option (List ℕ)) → run.last ≡ last
    → Replays n old new run rest written → old.source.left ≡ Some content → StandsFirst (done_lines run) (lines_of content)
stand_first n old new run rest written content None is r left =
    let t = told content (all_lines run.lines ++ rest) new.source.left
    (read_is old.source.left new.source.left content (all_lines run.lines) rest run.last left is r.read) in
    record {
      others = lines_of (rest ++ t.more);
      are = split run.lines rest content t.more r.lines t.parts
          ∙ ap (λ (ls : List (List ℕ)). ls ++ lines_of (rest ++ t.more)) (sym (no_last run is));
    }
stand_first n old new run rest written content (Some line) is r left =
    let last = subst (λ (o : Option (List ℕ)). IfSome o (λ line. IsLine line × (0 < length line) × (rest ≡ []) × IsAtEnd new.source)) is r.last in
    record {
      others = [];
      are = all_done n old new run rest written content r last.2 last.3 left ∙ sym (append-nil (done_lines run));
    }

-- a sink that tells what it holds does so at the end, too
still_told : (held held' : Option (List ℕ)) (before written : List ℕ) → held ≡ Some before → Gained held held' written → held' ≡ Some (before ++ written)
still_told held held' before written told gained = gained ∙ ap (option_map (λ (text : List ℕ). text ++ written)) told

never_none : (held : Option (List ℕ)) (text : List ℕ) → held ≡ Some text → held ≡ None → ⊥
never_none None text some none = absurd cc
never_none (Some more) text some none = absurd cc

pub ends_within_reply : (n : ℕ) (old new : PortsView) (kernel : Option Machine) (content before : List ℕ)
    → Headline n statuses.WriteFault old new kernel → old.source.left ≡ Some content → old.sink.held ≡ Some before
    → EndsWithinReply n old.device (lines_of content) before new.sink.held
ends_within_reply n old new kernel content before h left held =
    let wrote = still_told old.sink.held new.sink.held before h.written held h.replays.wrote in
    elim h.ends.0 [
      | inl cut ↦
          let first = stand_first n old new h.run h.rest h.written content h.run.last refl h.replays left in
          record {
            done = cut.before;
            line = cut.line;
            others = first.others;
            are = first.are ∙ ap (λ (ls : List (List ℕ)). ls ++ first.others) cut.lines;
            transcript = cut.others;
            last = cut.last;
            said = cut.commands;
            does = record {
              state = h.run.state;
              commands = subst (λ (ls : List (List ℕ)). Transcribes ls (cut.others ++ cut.last ∷ [])) cut.lines
                  (subst (Transcribes (done_lines h.run)) cut.transcript h.replays.commands);
              legal = subst (λ (es : List Exchange). IsRun (setting_of n old.device) (at_first (setting_of n old.device)) es h.run.state)
                  cut.transcript h.replays.legal;
            };
            size = cut.size;
            short = cut.short;
            wrote = wrote ∙ ap (λ (text : List ℕ). Some (before ++ text)) cut.is;
          }
      | inr kept ↦ absurd (never_none new.sink.held (before ++ h.written) wrote kept.untold)
    ]
