-- The setting of a run over a device has numbers of 64 bits where the device's sizes have them, and so has each without a device.
use Rattle.std.specs.Prelude.{Err, IfSome, Ok, Result, option_and_then, option_map}
use Rattle.std.proofs.Common.{◌≡◌, ℕ, List, Option, Some, None, unwrap_or, refl, sym, ap, arith}
use Rattle.av_text.specs.Number.{IsWide}
use Rattle.av_swapdev.specs.Header.{Layout, answer_of, header_of}
use Rattle.av_swapdev.specs.declared.header.HeaderErr.{HeaderErr}
use Rattle.av_swapdev.proofs.HeaderLemmas.{adds_up}
use Rattle.av_plain.specs.Device.{Device, HasNoDevice, setting_of, without_fault}
use Rattle.av_plain.specs.Ledger.{Setting, size_of}
use Rattle.av_laws.specs.ReadBack.{IsSmallLayout, IsSmallSetting}

-- what a page 0 says of an area
page-few : (page : List ℕ) (size : ℕ) → IfSome (without_fault (header_of page size)) IsSmallLayout
page-few page size = by (header_of page size) refl
  where
    by : (r : Result Layout HeaderErr) → header_of page size ≡ r → IfSome (without_fault r) IsSmallLayout
    by (Err fault) is = tt
    by (Ok h) is =
        let sums = adds_up page size (answer_of (Ok h)) (sym (ap answer_of is)) in
        let all = sums.all in
        let most = sums.most in
        omega (arith, all, most)

pub small-device : (n : ℕ) (d : Device) → IsWide n → ((k : ℕ) → IfSome (d.sizes k) IsWide) → IsSmallSetting (setting_of n d)
small-device n d frames sizes = record {
  frames = frames;
  areas = λ k some. record { pages = wide (d.sizes k) (sizes k); header = told k d.pages };
}
  where
    wide : (o : Option ℕ) → IfSome o IsWide → IsWide (unwrap_or o 0)
    wide None h = omega arith
    wide (Some size) h = h

    sized : (page : List ℕ) (o : Option ℕ) → IfSome (option_and_then (λ n. without_fault (header_of page n)) o) IsSmallLayout
    sized page None = tt
    sized page (Some size) = page-few page size

    told : (k : ℕ) (o : Option (ℕ → ℕ → List ℕ)) → IfSome {T = ℕ → Option Layout} (option_map
        (λ (first : ℕ → List ℕ) (k : ℕ). option_and_then (λ n. without_fault (header_of (first k) n)) (d.sizes k))
        (option_map (λ (told : ℕ → ℕ → List ℕ) (k : ℕ). told k 0) o))
        (λ (headers : ℕ → Option Layout). IfSome (headers k) IsSmallLayout)
    told k None = tt
    told k (Some pages) = sized (pages k 0) (d.sizes k)

pub small-alone : (m : Setting) → IsWide m.frames → HasNoDevice m → IsSmallSetting m
small-alone m frames none = record {
  frames = frames;
  areas = λ k some. absurd (let empty : size_of m k ≡ 0 = ap (λ o. unwrap_or o 0) (none k) in omega (arith, some, empty));
}
