-- Pages of which only the first are written out.
use Rattle.std.proofs.Common.{◌≡◌, ℕ, ◌+◌, ◌-◌, ◌<◌, ◌≤◌, List, [], ◌∷◌, ◌++◌, length, slice_set, get_or, replicate, refl, sym, ap, ◌∙◌, arith, length-append, length-set}
use Rattle.std.proofs.lemmas.List.{append-nil, append_assoc, get_or_default, get_or_append_left, get_or-append_right, get_or-replicate, set-get_or, replicate-append-replicate, length-replicate, set-append_left}
use Rattle.std.proofs.Math.Seq.{set-append_seam}
use Rattle.av_frames.specs.Pages.{zeros, all_pages}

-- one more page of zeros
pub one_more : {X : Type 0} (xs ys : List X) (x : X) (n m : ℕ) → n ≤ m → ys ≡ xs ++ replicate (m - n) x → ys ++ x ∷ [] ≡ xs ++ replicate (m + 1 - n) x
one_more xs ys x n m le is =
    let count : m - n + 1 ≡ m + 1 - n = omega (arith, le) in
    ap (λ l. l ++ x ∷ []) is ∙ append_assoc xs (replicate (m - n) x) (x ∷ []) ∙ ap (λ l. xs ++ l) (replicate-append-replicate (m - n) 1 x)
    ∙ ap (λ k. xs ++ replicate k x) count

pub none_more : {X : Type 0} (xs : List X) (x : X) (n : ℕ) → n ≡ 0 → xs ≡ xs ++ replicate n x
none_more xs x n none = sym (ap (λ k. xs ++ replicate k x) none ∙ append-nil xs)

-- pages of zeros that are written out are no other pages
pub same_pages : (filled : List (List ℕ)) (more count : ℕ) → more ≤ count →
    all_pages (filled ++ replicate (more - length filled) zeros) count ≡ all_pages filled count
same_pages filled more count le =
    let n = length filled in
    let written = replicate (more - n) zeros in
    let long : length (filled ++ written) ≡ n + (more - n) = length-append filled written ∙ ap (λ k. n + k) (length-replicate (more - n) zeros) in
    let total : more - n + (count - (n + (more - n))) ≡ count - n = omega (arith, le) in
    ap (λ k. (filled ++ written) ++ replicate (count - k) zeros) long
    ∙ append_assoc filled written (replicate (count - (n + (more - n))) zeros)
    ∙ ap (λ l. filled ++ l) (replicate-append-replicate (more - n) (count - (n + (more - n))) zeros)
    ∙ ap (λ k. filled ++ replicate k zeros) total

-- a page changes among those that are written out
pub page_set : (filled : List (List ℕ)) (frame count : ℕ) (page : List ℕ) → frame < count
    → all_pages (slice_set (filled ++ replicate (frame + 1 - length filled) zeros) frame page) count ≡ slice_set (all_pages filled count) frame page
page_set filled frame count page below =
    let first = filled ++ replicate (frame + 1 - length filled) zeros in
    let long : length first ≡ length filled + (frame + 1 - length filled) = length-append filled (replicate (frame + 1 - length filled) zeros)
    ∙ ap (λ k. length filled + k) (length-replicate (frame + 1 - length filled) zeros) in
    ap (λ k. slice_set first frame page ++ replicate (count - k) zeros) (length-set first frame page)
    ∙ sym (set-append_left first (replicate (count - length first) zeros) frame page (omega (arith, long)))
    ∙ ap (λ l. slice_set l frame page) (same_pages filled (frame + 1) count (omega (arith, below)))

pub page_read : (filled : List (List ℕ)) (frame count : ℕ) (page : List ℕ) → frame < count →
    page ≡ get_or (filled ++ replicate (frame + 1 - length filled) zeros) frame page
    → page ≡ get_or (all_pages filled count) frame []
page_read filled frame count page below is =
    let first = filled ++ replicate (frame + 1 - length filled) zeros in
    let long : length first ≡ length filled + (frame + 1 - length filled) = length-append filled (replicate (frame + 1 - length filled) zeros)
    ∙ ap (λ k. length filled + k) (length-replicate (frame + 1 - length filled) zeros) in
    let within : frame < length first = omega (arith, long) in
    is ∙ get_or_default first frame page [] within ∙ sym (get_or_append_left first (replicate (count - length first) zeros) [] frame within)
    ∙ ap (λ l. get_or l frame []) (same_pages filled (frame + 1) count (omega (arith, below)))

pub length_pages : (filled : List (List ℕ)) (count : ℕ) → length filled ≤ count → length (all_pages filled count) ≡ count
length_pages filled count le = length-append filled (replicate (count - length filled) zeros) ∙ ap (λ k. length filled + k)
    (length-replicate (count - length filled) zeros) ∙ omega (arith, le)

-- a page that is not written out is zeros
pub page_cleared : (filled : List (List ℕ)) (frame count : ℕ) → length filled ≤ frame → frame < count → all_pages filled count ≡ slice_set (all_pages filled count) frame zeros
page_cleared filled frame count past below =
    let read : get_or (all_pages filled count) frame zeros ≡ zeros =
    get_or-append_right filled (replicate (count - length filled) zeros) (length filled) frame zeros refl past
    ∙ get_or-replicate (count - length filled) (frame - length filled) zeros zeros (omega (arith, past, below)) in
    sym (set-get_or (all_pages filled count) frame zeros) ∙ ap (slice_set (all_pages filled count) frame) read

-- one that is written out changes in its place
pub page_in_place : (filled : List (List ℕ)) (frame count : ℕ) (page : List ℕ) → frame < length filled
    → all_pages (slice_set filled frame page) count ≡ slice_set (all_pages filled count) frame page
page_in_place filled frame count page below =
    ap (λ k. slice_set filled frame page ++ replicate (count - k) zeros) (length-set filled frame page)
    ∙ sym (set-append_left filled (replicate (count - length filled) zeros) frame page below)

-- pages of zeros are written out up to one, and that one behind them
pub page_pushed : (filled : List (List ℕ)) (frame count : ℕ) (page : List ℕ) → length filled ≤ frame → frame < count
    → all_pages ((filled ++ replicate (frame - length filled) zeros) ++ page ∷ []) count ≡ slice_set (all_pages filled count) frame page
page_pushed filled frame count page past below =
    let n = length filled in
    let first = filled ++ replicate (frame - n) zeros in
    let long : length first ≡ frame = length-append filled (replicate (frame - n) zeros) ∙ ap (λ k. n + k) (length-replicate (frame - n) zeros) ∙ omega (arith, past) in
    let more : first ++ zeros ∷ [] ≡ filled ++ replicate (frame + 1 - n) zeros = one_more filled first zeros n frame past refl in
    let put : first ++ page ∷ [] ≡ slice_set (first ++ zeros ∷ []) frame page = sym (ap (λ k. slice_set (first ++ zeros ∷ []) k page) (sym long) ∙ set-append_seam first zeros [] page) in
    ap (λ l. all_pages l count) (put ∙ ap (λ l. slice_set l frame page) more) ∙ page_set filled frame count page below
