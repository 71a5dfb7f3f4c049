use Rattle.std.proofs.Common.{[], ◌∷◌, arith, inl, refl, rules}
use Rattle.example_smtp.specs.Folder.{StoresIn}
use Rattle.example_smtp.specs.Mail.{file_of}
use Rattle.example_smtp.proofs.session.Session.store_message.Goals as goal

pub returns-clause-stored : goal.returns-clause-stored
returns-clause-stored g c =
    let stored : StoresIn c.args.self.now.folder
    (file_of c.in-Ok.date.text c.args.self.now.draft ∷ []) c.store.new.mailbox = grind arith in
    inl (refl, c.in-Ok.date.text, c.in-Ok.ensures, (stored, search rules))
