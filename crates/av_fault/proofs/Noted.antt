-- Notes that are added, one after the other.
use Rattle.std.proofs.Common.{◌≡◌, ℕ, List, [], ◌∷◌, ◌++◌, refl, sym, ap, ◌∙◌, arith}
use Rattle.std.proofs.lemmas.List.{append-nil, append_assoc}
use Rattle.av_trace.specs.declared.note.Note.{Note}
use Rattle.av_plain.specs.Device.{Device}
use Rattle.av_plain.specs.Pass.{fails, is_fail}
use Rattle.av_plain.proofs.Ledger.{how_many-append}
use Rattle.av_reclaim.specs.Commands.{HasNoted}

-- of which none tells a failure
pub noted-unfailed : (d : Device) (before now added : List Note) → now ≡ before ++ added → fails added ≡ 0 → HasNoted d d before now added 0 0
noted-unfailed d before now added notes none = record { notes = notes; failures = omega (arith, none); failed = omega arith }

pub noted-none : (d : Device) (notes : List Note) → HasNoted d d notes notes [] 0 0
noted-none d notes = noted-unfailed d notes notes [] (sym (append-nil notes)) refl

pub noted-then : (d d' d'' : Device) (before mids now first second : List Note) (lost failed few : ℕ) → HasNoted d d' before mids first 0 few
    → HasNoted d' d'' mids now second lost failed → HasNoted d d'' before now (first ++ second) lost failed
noted-then d d' d'' before mids now first second lost failed few a b =
    let both = how_many-append is_fail first second in
    let rose = a.failures in
    let more = b.failures in
    let least = b.failed in
    record {
      notes = b.notes ∙ ap (λ ns. ns ++ second) a.notes ∙ append_assoc before first second;
      failures = omega (arith, both, rose, more);
      failed = omega (arith, both, least);
    }

-- one more, which tells no failure
pub noted-more : (d d' : Device) (before mids now added : List Note) (note : Note) (few : ℕ) → HasNoted d d' before mids added 0 few
    → now ≡ mids ++ note ∷ [] → fails (note ∷ []) ≡ 0 → HasNoted d d' before now (added ++ note ∷ []) 0 0
noted-more d d' before mids now added note few noted is none =
    noted-then d d' d' before mids now added (note ∷ []) 0 0 few noted (noted-unfailed d' mids now (note ∷ []) is none)
