-- Name, source and parents are read in the order of the layout, and each return is a law of the first reading that fails, or of all three.
use Rattle.event.proofs.AnswerLaws.{text-order, text-within, text-not}
use Rattle.event.proofs.HeadLaws.{no_name, no_source, source-not, parents-not, head-found, parents-refused}
use Rattle.event.proofs.head.read_head.Goals as goal

pub returns-in_err-name : goal.returns-in_err-name
returns-in_err-name c = rw c.from_residual.ensures (no_name _ _ c.read_text.ensures c.in_err-name.was)

pub returns-in_err-source : goal.returns-in_err-source
returns-in_err-source c =
    rw c.from_residual-in_err-source.ensures
    (no_source _ _ c.read_text.ensures c.in_ok-name.was (text-not _ _ c.read_text-2.ensures c.in_err-source.was))

pub slice_bounds-is_source-count : goal.slice_bounds-is_source-count
slice_bounds-is_source-count c = text-order _ _ c.read_text-2.ensures c.in_ok-source.was

pub slice_bounds-is_source-start : goal.slice_bounds-is_source-start
slice_bounds-is_source-start c = text-order _ _ c.read_text-2.ensures c.in_ok-source.was

pub slice_bounds-is_source-end : goal.slice_bounds-is_source-end
slice_bounds-is_source-end c = text-within _ _ c.read_text-2.ensures c.in_ok-source.was

pub returns-then-not-is_source : goal.returns-then-not-is_source
returns-then-not-is_source c =
    source-not _ _ c.read_text.ensures c.in_ok-name.was c.read_text-2.ensures c.in_ok-source.was c.is_source.ensures c.if-not-is_source.true-raw

pub returns-in_err-parents : goal.returns-in_err-parents
returns-in_err-parents c =
    rw c.from_residual-in_err-parents.ensures
    (parents-not _ _ c.read_text.ensures c.in_ok-name.was c.read_text-2.ensures c.in_ok-source.was c.is_source.ensures c.if-not-is_source.false-raw
    (parents-refused _ c.in_err-parents.was c.read_parents.ensures))

pub returns : goal.returns
returns c =
    head-found _ _ c.read_text.ensures c.in_ok-name.was c.read_text-2.ensures c.in_ok-source.was c.is_source.ensures c.if-not-is_source.false-raw
    c.read_parents.ensures c.in_ok-parents.was
