use Rattle.std.proofs.Common.{vec_items, sym, ◌∙◌}
use Rattle.drives.specs.Pieces.{block_in}
use Rattle.drives.proofs.area.Area.get.Goals as goal

pub returns : goal.returns
returns c =
    let a = c.args.self.now in
    let n = a.geometry.counts in
    let e = block_in a.zones n.blocks n.bytes (vec_items a.cells) (sym a.cells.ok.0 ∙ a.whole) c.args.zone.0 c.args.place.0 c.requires.zone c.requires.place in
    let f = c.get_at.ensures in
    cc
