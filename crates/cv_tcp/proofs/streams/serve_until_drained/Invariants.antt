use Rattle.cv_tcp.proofs.streams.serve_until_drained.Given as goal

abbrev pub ghosts-serve_quota-Q-Quota : goal.ghosts-serve_quota-Q-Quota
ghosts-serve_quota-Q-Quota g a = record { streams = a.service.now.terms.streams }

abbrev pub ghosts-serve_quota-Q-Ledger : goal.ghosts-serve_quota-Q-Ledger
ghosts-serve_quota-Q-Ledger g a = record { name = a.blank.name; parts = a.blank.parts }
