use Rattle.std.specs.Prelude.{[]}
use Rattle.std.proofs.Common.{refl}
use Rattle.av_plain.specs.Ledger.{first_ledger}
use Rattle.av_round_laws.proofs.audits.audits_have_words_and_numbers.Goals as goal

pub returns-clause-mark : goal.returns-clause-mark
returns-clause-mark c = refl

pub returns-clause-most_bytes : goal.returns-clause-most_bytes
returns-clause-most_bytes c = refl

pub returns-clause-legal : goal.returns-clause-legal
returns-clause-legal c = refl

pub returns-clause-first_reply : goal.returns-clause-first_reply
returns-clause-first_reply c = record {
  done = [];
  others = [];
  commands_are = refl;
  legal = [];
  rest = _;
  units_are = refl;
  number_is = refl;
  world = [];
  ledger = first_ledger;
  are_units = (refl, refl);
  stops = tt;
}
