use Rattle.std.proofs.Common.{List, length, ap, arith}
use Rattle.neph_base.specs.declared.command.Command.TheVariants as command
use Rattle.neph_gmap.specs.declared.page.Page.{Page}
use Rattle.neph_guest.proofs.Staying.{map_done, map_hand, map_spare, map_err, map_held, map_lacks}
use Rattle.neph_guest.proofs.memory.map.Goals as goal

pub returns-clause-row : goal.returns-clause-row
returns-clause-row g c = λ o h.
    map_done g.P.FramePool.world c.args.pool.now c.args.d.now c.map_page-answer.new.pool c.map_page-answer.new.self c.requires.stands (ap (λ (ps : List Page). length ps) c.map_page-answer.ensures.pages)
    c.map_page-answer.ensures.bytes o h c.args.vpn c.args.pfn c.args.mode (omega (arith, c.get-number.ensures.value, c.get-number.ensures.range)) c.map_page-answer.result c.map_page-answer.ensures.answer
    c.map_page-answer.ensures.mappings c.map_page-answer.ensures.leaves c.map_page-answer.ensures.err c.map_page-answer.ensures.entries c.map_page-answer.ensures.root c.row_of_map.result c.row_of_map.ensures

pub returns-clause-hand : goal.returns-clause-hand
returns-clause-hand g c =
    map_hand g.P.FramePool.world c.args.pool.now c.args.d.now c.map_page-answer.new.pool c.map_page-answer.new.self c.map_page-answer.ensures.hand
    (command.Map c.args.vpn c.args.pfn c.args.mode) c.map_page-answer.result c.row_of_map.result c.row_of_map.ensures

pub returns-clause-spare : goal.returns-clause-spare
returns-clause-spare g c =
    map_spare g.P.FramePool.world c.args.pool.now c.args.d.now c.map_page-answer.new.pool c.map_page-answer.new.self c.args.vpn c.args.pfn c.args.mode
    c.map_page-answer.result c.row_of_map.result c.row_of_map.ensures c.map_page-answer.ensures.err c.map_page-answer.ensures.spare

pub returns-clause-err : goal.returns-clause-err
returns-clause-err g c =
    map_err g.P.FramePool.world c.args.pool.now c.args.d.now c.map_page-answer.new.pool c.map_page-answer.new.self c.map_page-answer.result c.row_of_map.result c.row_of_map.ensures
    c.map_page-answer.ensures.err c.map_page-answer.ensures.entries c.map_page-answer.ensures.root c.map_page-answer.ensures.id c.map_page-answer.ensures.hand c.map_page-answer.ensures.moves.others.cap c.map_page-answer.ensures.moves.fits c.map_page-answer.ensures.moves.names

pub returns-clause-lacks : goal.returns-clause-lacks
returns-clause-lacks g c = map_lacks _ _ c.args.d.now.own.spare c.map_page-answer.result c.map_page-answer.ensures.answer c.row_of_map.result c.row_of_map.ensures

pub returns-clause-held : goal.returns-clause-held
returns-clause-held g c =
    map_held g.P.FramePool.world c.args.pool.now c.args.d.now c.args.vpn c.args.pfn c.args.mode (omega (arith, c.get-number.ensures.value, c.get-number.ensures.range)) _ c.map_page-answer.result c.map_page-answer.ensures.answer c.row_of_map.result c.row_of_map.ensures

pub map_page-answer-requires-clause-room : goal.map_page-answer-requires-clause-room
map_page-answer-requires-clause-room g c = c.requires.cap (omega (arith, c.get-number.ensures.value, c.get-number.ensures.range))
