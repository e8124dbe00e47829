use Rattle.std.proofs.Common.{◌≡◌, ℕ, Ok, Err, Result, IfOk, OnOk, sym, ap, subst}
use Rattle.std.proofs.lemmas.Result.{on_ok_weaker, IfOk-weaker}
use Rattle.std.specs.Prelude.{None}
use Rattle.av_base.specs.Words.{with_at}
use Rattle.av_vma.specs.declared.area.Area.{Area}
use Rattle.av_vma.specs.Areas.{area_of}
use Rattle.av_merge.specs.Pages.{pages_by}
use Rattle.av_vma.specs.Pages.{with_area}
use Rattle.av_merge.proofs.SplittingLaws.{crossed, lower_number, lower_of, parts_ends, split_pages, upper_number, upper_of}
use Rattle.av_merge.proofs.splitting.unmap_within.Goals as goal

pub put_apart-requires-clause-there : goal.put_apart-requires-clause-there
put_apart-requires-clause-there c =
    let p = c.requires.stands.0 in
    let stands = c.requires.stands.1 in
    let areas = area_of c.args.areas.now in
    let spans = c.args.tree.now in
    let area = c.get-whole.result in
    parts_ends p c.args.area c.args.from c.args.to areas spans area stands c.get-whole.ensures c.requires.forward
    (crossed p c.args.area c.args.from c.args.to areas spans area stands c.requires.inside c.get-whole.ensures)

pub returns-clause-pages : goal.returns-clause-pages
returns-clause-pages c =
    let p = c.requires.stands.0 in
    let stands = c.requires.stands.1 in
    let areas = area_of c.args.areas.now in
    let spans = c.args.tree.now in
    let area = c.get-whole.result in
    let x = crossed p c.args.area c.args.from c.args.to areas spans area stands c.requires.inside c.get-whole.ensures in
    let upper : upper_of c.args.to area ≡ record (upper_of c.args.to area) { pgoff = c.index.result } =
    ap (λ (n : ℕ). record (upper_of c.args.to area) { pgoff = n }) (sym c.index.ensures) in
    on_ok_weaker c.put_apart.result
    (λ pages'. split_pages p c.args.area c.args.from c.args.to areas spans area stands c.get-whole.ensures c.requires.forward x
    (area_of c.put_apart.new.areas) c.put_apart.new.tree
    (subst (λ (a : Area). (page : ℕ) → pages_by (area_of c.put_apart.new.areas) c.put_apart.new.tree page ≡ with_area a
    (with_area (lower_of c.args.from area) (pages_by (with_at c.args.area None areas) spans)) page) (sym upper) pages'))
    c.put_apart.ensures.pages

from_ok : {T E : Type 0} (r : Result T E) (P : T → Type 0) (Q : Type 0) → ((x : T) → P x → Q) → IfOk r P → OnOk r Q
from_ok (Ok x) P Q f h = f x h
from_ok (Err e) P Q f h = tt

pub returns-clause-upper : goal.returns-clause-upper
returns-clause-upper c =
    let p = c.requires.stands.0 in
    let stands = c.requires.stands.1 in
    let areas = area_of c.args.areas.now in
    let spans = c.args.tree.now in
    let area = c.get-whole.result in
    let x = crossed p c.args.area c.args.from c.args.to areas spans area stands c.requires.inside c.get-whole.ensures in
    IfOk-weaker c.put_apart.result _ _
    (λ number numbers'. upper_number p c.args.area c.args.from c.args.to areas spans area stands c.get-whole.ensures c.requires.forward x
    c.put_apart.new.tree number numbers')
    c.put_apart.ensures.number

pub returns-clause-lower : goal.returns-clause-lower
returns-clause-lower c =
    let p = c.requires.stands.0 in
    let stands = c.requires.stands.1 in
    let areas = area_of c.args.areas.now in
    let spans = c.args.tree.now in
    let area = c.get-whole.result in
    let x = crossed p c.args.area c.args.from c.args.to areas spans area stands c.requires.inside c.get-whole.ensures in
    from_ok c.put_apart.result _ _
    (λ number numbers'. lower_number p c.args.area c.args.from c.args.to areas spans area stands c.get-whole.ensures c.requires.forward x
    c.put_apart.new.tree number numbers')
    c.put_apart.ensures.number
