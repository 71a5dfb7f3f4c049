use Rattle.std.proofs.Common.{◌∙◌, ap}
use Rattle.example_smtp.proofs.FolderLemmas.{call_noted}
use Rattle.example_smtp.specs.Folder.{contents_of}
use Rattle.example_smtp.specs.declared.folder.Call.TheVariants.{Fail}
use Rattle.example_smtp.proofs.system.note_write.Goals as goal

pub returns-in-Err : goal.returns-in-Err
returns-in-Err c = (
  (contents_of c.args.calls.now.items).drafts,
  ap contents_of c.and.ensures ∙ call_noted c.args.calls.now.items Fail,
)
