mod Onward
mod OnwardExprs
mod OnwardStmts
mod OnwardMembers
mod Rising
mod FileRising
