use Rattle.std.proofs.Common.{◌≡◌, refl, ap, arith}
use Rattle.cost.specs.Rows.{path_at}
use Rattle.search.specs.Calls as search
use Rattle.search.specs.Stores.{put_into, emptied_to}
use Rattle.search.specs.Search.{root}
use Rattle.model.specs.Blocks.{meaning_of, block_of}
use Rattle.model.specs.Reading.{contents_in}
use Rattle.model.proofs.Blocks.{path-start}
use Rattle.model.proofs.Following.{start-follows}
use Rattle.decoder.specs.Blocks.{plan_in, llr_in}
use Rattle.decoder.proofs.Apart.{apart-put, apart_none}
use Rattle.decoder.proofs.Starts.{root-exact}
use Rattle.decoder.proofs.state.State.start.Goals as goal

pub returns : goal.returns
returns g c =
    let s = c.empty.new.self in
    let t = c.put.new.self in
    let check = c.args.self.now.check in
    let block = block_of (plan_in c.args.block) (llr_in c.args.block) (meaning_of g.C.Judge check) in
    let limits = c.args.limits in
    let same : contents_in (path_at c.args.self.now.rows) (g.S.Store.kept t) (g.S.Store.capacity t) (g.S.Store.floor t) ≡ put_into (emptied_to limits.capacity) root =
    start-follows (path_at c.args.self.now.rows) (g.S.Store.kept s) (g.S.Store.kept t) (g.S.Store.capacity s) (g.S.Store.capacity t) (g.S.Store.floor s) (g.S.Store.floor t) limits.capacity 0 c.empty.ensures.kept c.empty.ensures.capacity c.empty.ensures.floor c.put.ensures.kept c.put.ensures.capacity c.put.ensures.floor in
    record {
      model = ap (λ x. search.Busy (record { block = block; most_failures = limits.failures; most_steps = limits.steps; store = x; serial = 1; steps = 0; failures = 0; phase = search.Searching })) same;
      coherent = record {
        exact = root-exact block limits.capacity _ (path-start _ _) same;
        apart = apart-put (g.S.Store.capacity s) (g.S.Store.kept s) (g.S.Store.kept t) (record { metric = 0; length = 0; serial = 0; row = 0 }) (apart_none (g.S.Store.kept s) c.empty.ensures.kept).0 (apart_none (g.S.Store.kept s) c.empty.ensures.kept).1 c.put.ensures.kept;
        serials = omega arith;
        shown = tt;
      };
      check = refl;
    }
