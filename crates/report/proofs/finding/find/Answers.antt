-- `find` meets its contract. Assumes nothing.
use Rattle.report.proofs.Findings.{name_over, not_loaded, is_loaded}
use mathlib.Core.Path.{sym, ◌∙◌}
use Rattle.report.proofs.finding.find.Goals as goal

pub returns-then-name-gt1000 : goal.returns-then-name-gt1000
returns-then-name-gt1000 c = let x = c.args in name_over x.file.now x.name.now c.if-name-gt1000.true

pub returns-then-not-is_done : goal.returns-then-not-is_done
returns-then-not-is_done c =
    let x = c.args in
    not_loaded x.file.now x.name.now c.if-name-gt1000.false x.store.now x.state.now c.load-loaded.new.store c.load-loaded.new.state c.requires c.load-loaded.result c.load-loaded.ensures
    (sym c.is_done.ensures ∙ c.if-not-is_done.true)

pub returns : goal.returns
returns c =
    let x = c.args in
    is_loaded x.file.now x.name.now c.if-name-gt1000.false x.store.now x.state.now c.load-loaded.new.store c.load-loaded.new.state c.requires c.load-loaded.result c.load-loaded.ensures
    (sym c.is_done.ensures ∙ c.if-not-is_done.false) c.report.result c.report.ensures
