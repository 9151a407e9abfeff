-- The words that a conversion uses, by the texts of their names.
use Rattle.std.specs.Prelude.{◌≡◌, codes}
use Rattle.cpc_tree.specs.Erase.{Names}
use Rattle.cpc_chains_event.specs.Driver as D
use Rattle.cpc_convert_routines.specs.Names as N
use Rattle.cpc_convert_names.specs.declared.words.OwnWords.{OwnWords}
use Rattle.cpc_convert_names.specs.declared.words.LoopWords.{LoopWords}

-- words of ours
pub record AreOwn (to : Names) (w : OwnWords) : Type 0 where
  pub pointer : to w.pointer ≡ N.pointer_name
  pub frame : to w.frame ≡ N.frame_name
  pub next : to w.next ≡ N.next_name
  pub value : to w.value ≡ N.value_name
  pub given : to w.given ≡ N.to_name
  pub under : to w.under ≡ N.under_name
  pub returned : to w.returned ≡ N.result_name
  pub code : to w.code ≡ D.code_field
  pub any_frame : to w.any_frame ≡ D.frame_tag
  pub drive : to w.drive ≡ D.drive_name
  pub taken : to w.taken ≡ D.taken_name
  pub answer : to w.answer ≡ codes "r__"

-- words of the loop
pub record AreOfLoop (to : Names) (w : LoopWords) : Type 0 where
  pub frame : to w.frame ≡ codes "rt_frame"
  pub frame_free : to w.frame_free ≡ codes "rt_frame_free"
  pub put_in_box : to w.put_in_box ≡ codes "rt_box"
  pub unbox : to w.unbox ≡ codes "rt_unbox"
  pub ready : to w.ready ≡ codes "rt_ready"
  pub sleep : to w.sleep ≡ codes "rt_sleep"
  pub io : to w.io ≡ codes "rt_io"
  pub wait : to w.wait ≡ codes "rt_wait"
  pub detach : to w.detach ≡ codes "rt_detach"
