-- `crossings_code::end_in`: end after end.
use borrow.Author.Rules.{rules}
use mathlib.Core.Path.{◌≡◌, sym, ◌∙◌}
use mathlib.Core.Bool.{false}
use Rattle.geometry.proofs.Machine.{Fitting}
use Rattle.crossings.specs.Crossings.{covers_first, covers_last}
use Rattle.crossings.specs.inner.Ends.{end_in}
use Rattle.crossings.proofs.Reading.{read-covers}
use Rattle.crossings_code.proofs.end_in.Goals as goal

pub returns-then-covers_point : goal.returns-then-covers_point
unfolding end_in
returns-then-covers_point c =
    let fits-h : Fitting c.args.h = search rules in
    let left : c.covers_point.result ≡ covers_first c.args.r c.args.h = let f = fits-h in read-covers c.args.r f.left f.bottom c.covers_point.ensures in
    rw (sym left ∙ c.if-covers_point.true)

pub returns-then-covers_point-2 : goal.returns-then-covers_point-2
unfolding end_in
returns-then-covers_point-2 c =
    let fits-h : Fitting c.args.h = search rules in
    let right : c.covers_point-2.result ≡ covers_last c.args.r c.args.h = let f = fits-h in read-covers c.args.r f.right f.top c.covers_point-2.ensures in
    let left : c.covers_point.result ≡ covers_first c.args.r c.args.h = let f = fits-h in read-covers c.args.r f.left f.bottom c.covers_point.ensures in
    let no-left : covers_first c.args.r c.args.h ≡ false = sym left ∙ c.if-covers_point.false in
    rw (no-left, sym right ∙ c.if-covers_point-2.true)

pub returns-then-covers_point-3 : goal.returns-then-covers_point-3
unfolding end_in
returns-then-covers_point-3 c =
    let fits-v : Fitting c.args.v = search rules in
    let bottom : c.covers_point-3.result ≡ covers_first c.args.r c.args.v = let f = fits-v in
    read-covers c.args.r f.left f.bottom c.covers_point-3.ensures in
    let fits-h : Fitting c.args.h = search rules in
    let left : c.covers_point.result ≡ covers_first c.args.r c.args.h = let f = fits-h in read-covers c.args.r f.left f.bottom c.covers_point.ensures in
    let no-left : covers_first c.args.r c.args.h ≡ false = sym left ∙ c.if-covers_point.false in
    let right : c.covers_point-2.result ≡ covers_last c.args.r c.args.h = let f = fits-h in read-covers c.args.r f.right f.top c.covers_point-2.ensures in
    let no-right : covers_last c.args.r c.args.h ≡ false = sym right ∙ c.if-covers_point-2.false in
    rw (no-left, no-right, sym bottom ∙ c.if-covers_point-3.true)

pub returns-then-covers_point-4 : goal.returns-then-covers_point-4
unfolding end_in
returns-then-covers_point-4 c =
    let fits-v : Fitting c.args.v = search rules in
    let top : c.covers_point-4.result ≡ covers_last c.args.r c.args.v = let f = fits-v in
    read-covers c.args.r f.right f.top c.covers_point-4.ensures in
    let fits-h : Fitting c.args.h = search rules in
    let left : c.covers_point.result ≡ covers_first c.args.r c.args.h = let f = fits-h in read-covers c.args.r f.left f.bottom c.covers_point.ensures in
    let no-left : covers_first c.args.r c.args.h ≡ false = sym left ∙ c.if-covers_point.false in
    let right : c.covers_point-2.result ≡ covers_last c.args.r c.args.h = let f = fits-h in read-covers c.args.r f.right f.top c.covers_point-2.ensures in
    let no-right : covers_last c.args.r c.args.h ≡ false = sym right ∙ c.if-covers_point-2.false in
    let bottom : c.covers_point-3.result ≡ covers_first c.args.r c.args.v = let f = fits-v in
    read-covers c.args.r f.left f.bottom c.covers_point-3.ensures in
    let no-bottom : covers_first c.args.r c.args.v ≡ false = sym bottom ∙ c.if-covers_point-3.false in
    rw (no-left, no-right, no-bottom, sym top ∙ c.if-covers_point-4.true)

pub returns : goal.returns
unfolding end_in
returns c =
    let fits-v : Fitting c.args.v = search rules in
    let top : c.covers_point-4.result ≡ covers_last c.args.r c.args.v = let f = fits-v in
    read-covers c.args.r f.right f.top c.covers_point-4.ensures in
    let fits-h : Fitting c.args.h = search rules in
    let left : c.covers_point.result ≡ covers_first c.args.r c.args.h = let f = fits-h in read-covers c.args.r f.left f.bottom c.covers_point.ensures in
    let no-left : covers_first c.args.r c.args.h ≡ false = sym left ∙ c.if-covers_point.false in
    let right : c.covers_point-2.result ≡ covers_last c.args.r c.args.h = let f = fits-h in read-covers c.args.r f.right f.top c.covers_point-2.ensures in
    let no-right : covers_last c.args.r c.args.h ≡ false = sym right ∙ c.if-covers_point-2.false in
    let bottom : c.covers_point-3.result ≡ covers_first c.args.r c.args.v = let f = fits-v in
    read-covers c.args.r f.left f.bottom c.covers_point-3.ensures in
    let no-bottom : covers_first c.args.r c.args.v ≡ false = sym bottom ∙ c.if-covers_point-3.false in
    rw (no-left, no-right, no-bottom, sym top ∙ c.if-covers_point-4.false)
