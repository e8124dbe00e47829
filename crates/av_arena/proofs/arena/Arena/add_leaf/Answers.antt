use Rattle.std.proofs.Common.{rules, ◌≡◌, ◌++◌, ◌∷◌, [], length, slice_set, sym, ap, ◌∙◌, subst, refl}
use Rattle.std.proofs.lemmas.Option.{get_or_from_slice_get}
use Rattle.av_arena.specs.Arena.{store_of}
use Rattle.av_arena.specs.Cell.{AreListed, next_in}
use Rattle.av_arena.specs.declared.cell.Cell.{Cell}
use Rattle.av_arena.specs.declared.cell.Twig.TheVariants.{Bare}
use Rattle.av_arena.proofs.CellLemmas.{first_free, pushed, put_node}
use Rattle.av_arena.proofs.arena.Arena.add_leaf.Goals as goal

-- an entry as it is put in
abbrev leaf : {T S : Type 0} → T → Cell T S
leaf x = record { left = Bare; entry = x; right = Bare }

pub invariant_of-self : goal.invariant_of-self
invariant_of-self g c =
    let t = first_free c.self.inside.cells.items c.in-Some.number c.self.inside.free c.in-Some.is c.self.invariant in
    let same : c.index.result.now ≡ t.cell =
    c.index.ensures ∙ get_or_from_slice_get c.self.inside.cells.items c.in-Some.number t.cell c.index.result.now t.at in
    let told : c.next-self-inside.result ≡ next_in t.cell.left = c.next-self-inside.ensures ∙ ap (λ x. next_in x.left) same in
    subst (λ o. AreListed (slice_set c.self.inside.cells.items c.in-Some.number (leaf c.args.entry)) o) (sym told) (t.rest (leaf c.args.entry))

pub returns-in-Some-clause-unused : goal.returns-in-Some-clause-unused
returns-in-Some-clause-unused g c =
    let t = first_free c.self.inside.cells.items c.in-Some.number c.self.inside.free c.in-Some.is c.self.invariant in
    ap (λ v. store_of v c.in-Some.number) (sym c.self.view_is) ∙ t.none

pub returns-in-Some-clause-added : goal.returns-in-Some-clause-added
returns-in-Some-clause-added g c =
    let t = first_free c.self.inside.cells.items c.in-Some.number c.self.inside.free c.in-Some.is c.self.invariant in
    put_node c.self.inside.cells.items _ c.in-Some.number (leaf c.args.entry) _ c.self.view_is t.within refl
    refl

pub returns-clause-added : goal.returns-clause-added
returns-clause-added g c =
    let all : c.push.new.self.items ≡ c.self.inside.cells.items ++ leaf c.args.entry ∷ [] = search rules in
    let at : c.in-Ok.number ≡ length c.self.inside.cells.items = search rules in
    pushed c.self.inside.cells.items _ _ c.in-Ok.number (leaf c.args.entry) _ c.self.view_is all at refl refl
