use Rattle.std.proofs.Common.{vec_items, sym, ap, ◌∙◌, arith}
use Rattle.std.proofs.lemmas.List.{with_items_is}
use Rattle.drives.specs.Areas.{blocks_in}
use Rattle.drives.specs.Pieces.{block_put}
use Rattle.drives.proofs.area.Area.put.Goals as goal

pub returns-clause-blocks : goal.returns-clause-blocks
returns-clause-blocks c =
    let a = c.args.self.now in
    let n = a.geometry.counts in
    let r = with_items_is a.cells c.put_at.new.cells (omega arith) in
    let e = block_put a.zones n.blocks n.bytes (vec_items a.cells) (sym a.cells.ok.0 ∙ a.whole) c.args.zone.0 c.args.place.0 c.args.block.now c.requires.zone c.requires.place c.requires.bytes in
    let f = c.put_at.ensures in
    ap (blocks_in a.zones n.blocks n.bytes) r ∙ (cc)
