use Rattle.std.proofs.Common.{◌≡◌, ◌+◌, sym, ap, ◌∙◌, subst}
use Rattle.std.specs.List.{IsFirstBest}
use Rattle.std.specs.Ordering.{is_lt, is_some_and}
use Rattle.std.proofs.lemmas.List.MinMax.{ranks_by, IsFirstBest-keeps, IsFirstBest-takes}
use Rattle.search.proofs.least.Goals as goal

pub loop-i-preserved : goal.loop-i-preserved
loop-i-preserved g c =
    let order = ranks_by g.met.K.Ord.total (λ k. k) in
    let keys = c.args.keys.now in
    let i = c.loop-i.i in
    let best = c.loop-i.best in
    let x = c.index-keys-i.result in
    let y = c.index-keys-best.result in
    let P = IsFirstBest (λ a b. is_lt (g.K.Ord.cmp a b)) keys (i + 1) in
    let answer : c.lt.result ≡ is_lt (g.K.Ord.cmp x y) = c.lt.ensures ∙ ap (is_some_and is_lt) (g.met.K.Ord.matches_partial_cmp x y) in
    elim c.if-lt.branch [
      | goal.then-lt w ↦ subst P (sym w.best-is) (IsFirstBest-takes order keys i best x y c.loop-i.invariant c.loop-i-test.true c.index-keys-i.is c.index-keys-best.is (sym answer ∙ w.if-lt.true))
      | goal.else-lt w ↦ subst P (sym w.best-is) (IsFirstBest-keeps order keys i best x y c.loop-i.invariant c.loop-i-test.true c.index-keys-i.is c.index-keys-best.is (sym answer ∙ w.if-lt.false))
    ]
