use Rattle.std.proofs.Common.{◌≡◌, ℕ, zero, suc, List, [], ◌∷◌, ◌++◌, refl, ap, ◌∙◌, reverse, take}
use Rattle.av_audit_book.specs.Book.{ledger_of}
use Rattle.av_audit_book.proofs.book.Book.in_turn.Goals as goal

-- what is past the first n does not show
take-more : (n : ℕ) (xs ys : List ℕ) → take n (take n xs ++ ys) ≡ take n (xs ++ ys)
take-more zero xs ys = refl
take-more (suc n) [] ys = refl
take-more (suc n) (x ∷ xs) ys = ap (λ r. x ∷ r) (take-more n xs ys)

pub returns : goal.returns
returns c =
    let idle = reverse (ledger_of c.args.self.now).inactive in
    let busy = reverse (ledger_of c.args.self.now).active in
    let first = c.in_ok-add_last.ensures ∙ ap (λ xs. take c.args.n (xs ++ idle)) c.new-frames.ensures.items in
    c.in_ok-add_last-2.ensures ∙ ap (λ xs. take c.args.n (xs ++ busy)) first ∙ take-more c.args.n idle busy
