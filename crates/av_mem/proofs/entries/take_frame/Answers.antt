use Rattle.std.proofs.Common.{◌≡◌, ◌+◌, refl, ap, ◌∙◌, arith}
use Rattle.av_frames.specs.Store.{Shown, shown, with_home, with_maps}
use Rattle.av_mem.proofs.EntryComes.{frame-taken}
use Rattle.av_mem.proofs.LoadLaws.{first-free}
use Rattle.av_mem.proofs.entries.take_frame.Goals as goal

pub map_up-requires-clause-room : goal.map_up-requires-clause-room
map_up-requires-clause-room c =
    let f = c.in-Some.frame in
    let t = c.in-Some.ensures in
    let none = c.requires.free.unmapped f (first-free f c.args.mem.now.frames.free c.take.new.self.free t.0) in
    let same : (shown c.take.new.self).maps f ≡ 0 = ap (λ (s : Shown). s.maps f) t.3 ∙ none in
    omega (arith, same)

pub returns-clause-taken : goal.returns-clause-taken
returns-clause-taken c =
    let f = c.in-Some.frame in
    let t = c.in-Some.ensures in
    let old = c.args.mem.now in
    let left = c.take.new.self.free in
    record {
      left = left;
      first = t.0;
      view = frame-taken old (record old { frames = c.set_home.new.self; lists = c.to_inactive_head.new.self }) f left c.args.home
          (record { items = refl; tables = refl; spaces = refl; anons = refl }) (c.requires.free.unmapped f (first-free f old.frames.free left t.0))
          (c.set_home.ensures ∙ ap (with_home f c.args.home) (c.map_up.ensures ∙ ap (λ (s : Shown). with_maps f (s.maps f + 1) s) t.3))
          c.to_inactive_head.ensures refl;
    }
