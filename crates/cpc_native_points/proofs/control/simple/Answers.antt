use Rattle.std.proofs.Common.{◌≡◌, sym}
use Rattle.cpc_tree.specs.Erase.{stmt_of, list_of}
use Rattle.cpc_tree.specs.Syntax.{Absent, Present}
use Rattle.cpc_tree.proofs.Nodes.{block_seen}
use Rattle.cpc_native_points.specs.Parts as S
use Rattle.cpc_native_points.proofs.Finding.{stands_empty, stands_not}
use Rattle.cpc_native_points.proofs.control.simple.Goals as goal

pub returns-in-None : goal.returns-in-None
returns-in-None c = λ names.
    let v = c.deref.ensures.value in
    let h : Absent ≡ S.nth (list_of names c.in-Block.inner.items) 0 = rw v at (c.in-None.ensures names) in
    rw (block_seen names c.args.s.now _ _ c.in-Block.is) (sym (stands_empty (list_of names c.in-Block.inner.items) h))

pub returns-in-Some : goal.returns-in-Some
returns-in-Some c = λ names.
    let v = c.deref.ensures.value in
    let h : Present (stmt_of names c.in-Some.field-0.now) ≡ S.nth (list_of names c.in-Block.inner.items) 0 = rw v at (c.in-Some.ensures names) in
    rw (block_seen names c.args.s.now _ _ c.in-Block.is) (sym (stands_not (list_of names c.in-Block.inner.items) _ h))
